use Rattle.std.proofs.Common.{sym, ◌∙◌, subst}
use Rattle.std.proofs.lemmas.Bool.{cond-false}
use Rattle.token_memory_cache.specs.Shelves.{Opened}
use Rattle.token_memory_cache.proofs.Finding.{found, not_found}
use Rattle.token_memory_cache.proofs.Storing.{opened_found, opened_new}
use Rattle.token_memory_cache.proofs.shelf.Shelf.open.Goals as goal

pub returns-in_default : goal.returns-in_default
returns-in_default c =
    let s = c.args.self.now in
    let absent = not_found c.args.name.now _ (sym c.find.ensures ∙ c.in_default.is) in
    subst (Opened c.args.most c.args.name.now s c.make_room.new.self) (sym c.new.ensures.empty)
    (opened_new c.args.most c.args.name.now s c.make_room.new.self _ absent c.make_room.ensures (cond-false _ _ _ absent))

pub returns : goal.returns
returns c =
    let s = c.args.self.now in
    opened_found c.args.most c.args.name.now s c.take_off.new.self c.take_off.result c.in-Some.k
    (found c.args.name.now _ c.in-Some.k c.requires.apart (sym c.find.ensures ∙ c.in-Some.is)) c.take_off.ensures
