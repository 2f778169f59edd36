use Rattle.std.proofs.Common.{◌∙◌, arith}
use Rattle.token_memory_cache.proofs.Storing.{room_for, name_room, stored_entries, stored_sound}
use Rattle.token_memory_cache.proofs.shelf.Shelf.store.Goals as goal

pub add-requires-clause-room : goal.add-requires-clause-room
add-requires-clause-room c =
    room_for c.args.names c.args.tokens c.args.name.now c.args.self.now c.open-held.new.self c.open-held.result (omega arith) (omega arith) c.requires.sound c.open-held.ensures

pub put_back-requires-clause-room : goal.put_back-requires-clause-room
put_back-requires-clause-room c =
    name_room c.args.names c.args.tokens c.args.name.now c.args.token.now c.args.self.now c.open-held.new.self c.add.new.self c.open-held.result c.add.new.tokens (omega arith) c.requires.sound c.open-held.ensures c.add.ensures

pub returns-clause-entries : goal.returns-clause-entries
returns-clause-entries c =
    stored_entries c.args.names c.args.tokens c.args.name.now c.args.token.now c.args.self.now c.open-held.new.self c.add.new.self c.put_back.new.self c.open-held.result c.add.new.tokens
    (omega arith) (omega arith) c.open-held.ensures c.add.ensures c.put_back.ensures

pub returns-clause-sound : goal.returns-clause-sound
returns-clause-sound c =
    stored_sound c.args.names c.args.tokens c.args.name.now c.args.token.now c.args.self.now c.open-held.new.self c.add.new.self c.put_back.new.self c.open-held.result c.add.new.tokens
    c.requires.short.0 c.requires.short.1 c.requires.sound c.open-held.ensures c.add.ensures c.put_back.ensures (returns-clause-entries c)

pub returns-clause-size : goal.returns-clause-size
returns-clause-size c = record {
  names = c.put_back.ensures.size.names ∙ c.add.ensures.size.names ∙ c.open-held.ensures.size.names;
  tokens = c.put_back.ensures.size.tokens ∙ c.add.ensures.size.tokens ∙ c.open-held.ensures.size.tokens;
}
