-- What the types of the parameters say: the numbers of a message fit. Assumes nothing.
use Rattle.std.specs.Prelude.{Some, None}
use mathlib.Core.List.{List}
use mathlib.Core.Option.{get_or}
use Prim.Native.Nat.{◌^◌, ◌<◌}
use native.Mathlib.Omega.{arith}
use borrow.Author.Rules.{rules}
use mir.Val.{Val}
use denote.Builtin.{u16, u64}
use denote.Shadow.{shadow}
use Rattle.std.specs.contracts.option.Option as option
use Rattle.queue_messages.specs.Message.{Lifetime, MaxRetransmissions}
use Rattle.linked_adding.specs.Message.{lifetime_of, retransmissions_of}

pub lifetime_fits : (l : Lifetime) (vs : List Val) → shadow ((option.the_field u64).row.own_val ((option.the_type u64).to l) vs) → get_or (lifetime_of l) 0 < 2 ^ 64
lifetime_fits None vs h = omega arith
lifetime_fits (Some n) vs h = search rules

pub retransmissions_fit : (r : MaxRetransmissions) (vs : List Val) → shadow ((option.the_field u16).row.own_val ((option.the_type u16).to r) vs) → get_or (retransmissions_of r) 0 < 2 ^ 16
retransmissions_fit None vs h = omega arith
retransmissions_fit (Some n) vs h = search rules
