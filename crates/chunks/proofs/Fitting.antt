-- What the type of a fragment's data says: each number has its width. Assumes nothing.
use mathlib.Core.List.{List}
use Prim.Native.Nat.{ℕ, ◌<◌}
use borrow.Author.Rules.{rules}
use mir.Val.{Val}
use denote.Shadow.{shadow}
use Rattle.types.specs.contracts.StreamKey as key
use Rattle.types.specs.Keys.{key_id}
use Rattle.types.specs.declared.StreamKey.{StreamKey}
use Rattle.types.specs.declared.StreamKey.TheVariants.{Ordered, Unordered}
use Rattle.queue_sending.specs.contracts.data.Data as «data»
use Rattle.queue_sending.specs.declared.data.Data.{Data}
use Rattle.chunks.specs.Promise.{InWidth}

key_fits : (k : StreamKey) (vs : List Val) → shadow ((key.the_field).row.own_val ((key.the_type).to k) vs) → (key_id k).0 < 65536
key_fits (Ordered id) vs h = search rules
key_fits (Unordered id) vs h = search rules

pub data_fits : (tsn : ℕ) (d : Data) (vs : List Val) → tsn < 4294967296 → shadow ((«data».the_field).row.own_val ((«data».the_type).to d) vs) → InWidth tsn d
data_fits tsn d vs t h =
    let ssn : d.ssn.0 < 65536 = search rules in
    let mid : d.mid.0 < 4294967296 = search rules in
    let fsn : d.fsn.0 < 4294967296 = search rules in
    let ppid : d.ppid < 4294967296 = search rules in
    record { tsn_fits = t; id_fits = key_fits d.stream_key _ h.1.1.0; ssn_fits = ssn; mid_fits = mid; fsn_fits = fsn; ppid_fits = ppid }
