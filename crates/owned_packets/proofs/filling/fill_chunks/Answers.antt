-- `owned_packets::filling::fill_chunks` meets its contract: what the calls leave from here on is what they leave from the start on, and the words are those of a queue (proofs/Turns.antt). The measure is how many turns are left. Assumes nothing.
use mathlib.Core.Path.{refl, ◌∙◌}
use native.Mathlib.Omega.{arith}
use Rattle.packets.proofs.Cases.{chunk_room, size_room, field_room, one_within, no_turn, no_size, goes_on, ends_nothing, size_as, step_as}
use Rattle.owned_packets.proofs.Turns.{at_first, payable, turn_goes}
use Rattle.owned_packets.proofs.filling.fill_chunks.Goals as goal

pub loop-left-init : goal.loop-left-init
loop-left-init c = (refl, (refl, (c.requires.header_fits, (omega arith, (refl, at_first _ _ _ c.requires.good)))))

pub returns-then-left-eq0 : goal.returns-then-left-eq0
returns-then-left-eq0 c = no_turn _ _ _ _ _ _ _ _ _ _ _ _ _ c.if-left-eq0.true ∙ c.loop-left.invariant.1.1.1.1.0

pub returns-then-size-eq0 : goal.returns-then-size-eq0
returns-then-size-eq0 c = no_size c.args.kind _ _ _ _ _ _ _ _ _ _ _ _ c.if-left-eq0.false _ (size_as c.args.kind _ _ _ _ _ c.header_size-header.ensures c.size_asked-size.ensures) c.if-size-eq0.true ∙ c.loop-left.invariant.1.1.1.1.0

pub fill_one-made-requires : goal.fill_one-made-requires
fill_one-made-requires c =
    let size = size_as c.args.kind _ _ _ _ _ c.header_size-header.ensures c.size_asked-size.ensures in (
      payable c.requires.places c.loop-left.invariant.1.1.1.1.1,
      (
        field_room c.args.kind _ _ _ _ size c.if-size-eq0.false c.requires.limit_fits,
        omega (arith, size_room c.args.kind _ _ _ _ size c.if-size-eq0.false, c.loop-left.invariant.1.0, c.requires.packet_long),
      ),
    )

pub overflow_add-header : goal.overflow_add-header
overflow_add-header c = omega (arith, c.header_size-header.ensures, chunk_room c.args.kind _ _ _ _ _ (size_as c.args.kind _ _ _ _ _ c.header_size-header.ensures c.size_asked-size.ensures) c.if-size-eq0.false (one_within c.args.kind _ _ _ _ _ _ _ _ _ _ _ _ _ c.in-Fragment.ensures _ _ refl), c.requires.limit_fits)

pub padded-used-requires : goal.padded-used-requires
padded-used-requires c = omega (arith, c.header_size-header.ensures, chunk_room c.args.kind _ _ _ _ _ (size_as c.args.kind _ _ _ _ _ c.header_size-header.ensures c.size_asked-size.ensures) c.if-size-eq0.false (one_within c.args.kind _ _ _ _ _ _ _ _ _ _ _ _ _ c.in-Fragment.ensures _ _ refl), c.requires.limit_fits)

pub overflow_add-used-in-Fragment : goal.overflow_add-used-in-Fragment
overflow_add-used-in-Fragment c = omega (arith, step_as c.args.kind _ _ _ c.header_size-header.ensures c.padded-used.ensures, chunk_room c.args.kind _ _ _ _ _ (size_as c.args.kind _ _ _ _ _ c.header_size-header.ensures c.size_asked-size.ensures) c.if-size-eq0.false (one_within c.args.kind _ _ _ _ _ _ _ _ _ _ _ _ _ c.in-Fragment.ensures _ _ refl), c.requires.limit_fits)

pub loop-left-preserved : goal.loop-left-preserved
loop-left-preserved c =
    let size = size_as c.args.kind _ _ _ _ _ c.header_size-header.ensures c.size_asked-size.ensures in
    let step = step_as c.args.kind _ _ _ c.header_size-header.ensures c.padded-used.ensures in (
      c.events-1.given ∙ c.loop-left.invariant.0,
      (
        c.packet-1.given ∙ c.loop-left.invariant.1.0,
        (
          omega (arith, step, chunk_room c.args.kind _ _ _ _ _ (size_as c.args.kind _ _ _ _ _ c.header_size-header.ensures c.size_asked-size.ensures) c.if-size-eq0.false (one_within c.args.kind _ _ _ _ _ _ _ _ _ _ _ _ _ c.in-Fragment.ensures _ _ refl)),
          (
            omega (arith, c.loop-left.invariant.1.1.1.0, c.if-left-eq0.false),
            (
              goes_on c.args.kind _ _ _ _ _ _ _ _ _ _ _ _ c.if-left-eq0.false _ size c.if-size-eq0.false _ _ _ _ c.in-Fragment.ensures _ _ _ _ refl step c.next_tsn-tsn.ensures ∙ c.loop-left.invariant.1.1.1.1.0,
              turn_goes _ _ _ c.requires.places c.requires.in_time c.args.kind _ _ _ _ _ _ _ c.loop-left.invariant.1.1.1.1.1 c.if-size-eq0.false (field_room c.args.kind _ _ _ _ size c.if-size-eq0.false c.requires.limit_fits) (omega (arith, size_room c.args.kind _ _ _ _ size c.if-size-eq0.false, c.loop-left.invariant.1.0, c.requires.packet_long)) _ _ _ _ c.in-Fragment.ensures _ _ refl,
            ),
          ),
        ),
      ),
    )

pub returns-in-Nothing : goal.returns-in-Nothing
returns-in-Nothing c =
    ends_nothing c.args.kind _ _ _ _ _ _ _ _ _ _ _ _ c.if-left-eq0.false _ (size_as c.args.kind _ _ _ _ _ c.header_size-header.ensures c.size_asked-size.ensures) c.if-size-eq0.false _ _ _ _ c.in-Nothing.ensures _ refl
    ∙ c.loop-left.invariant.1.1.1.1.0
