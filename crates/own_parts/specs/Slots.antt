-- What a store of one token holds.
use Rattle.std.specs.Prelude.{◌&&◌, vec_items}
use Rattle.std.specs.Str.{bytes_eq}
use Rattle.token_store.specs.Store.{Holds}
use Rattle.own_parts.specs.declared.slot.OneToken.{OneToken}

-- its token under its name, while it is filled
abbrev pub slot_holds : OneToken → Holds
slot_holds s n t = s.filled && (bytes_eq n (vec_items s.name) && bytes_eq t (vec_items s.token))
