use Rattle.std.proofs.Common.{[]}
use Rattle.token_memory_cache.proofs.Shelving.{free_name, put}
use Rattle.token_memory_cache.proofs.shelf.Shelf.put_back.Goals as goal

pub returns : goal.returns
returns c =
    let s = c.args.self.now in
    rw (← c.of-name.ensures) (put s c.push_back.new.self c.push_back.new.chain _ _ c.of-name.result c.args.tokens c.requires.stands
    (c.push_back.ensures.chains [] (free_name s _ c.requires.stands c.requires.room) c.requires.stands.names))
