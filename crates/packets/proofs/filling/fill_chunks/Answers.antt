-- `packets::filling::fill_chunks` meets its contract: what the calls leave from here on is what they leave from the start on. The measure is how many turns are left. Assumes nothing.
use mathlib.Core.Path.{refl, ◌∙◌}
use native.Mathlib.Omega.{arith}
use Rattle.packets.proofs.Cases.{chunk_room, size_room, field_room, one_within, no_turn, no_size, goes_on, ends_nothing, ends_refused, size_as, step_as}
use Rattle.packets.proofs.filling.fill_chunks.Goals as goal

pub returns-then-left-eq0 : goal.returns-then-left-eq0
returns-then-left-eq0 c = no_turn _ _ _ _ _ _ _ _ _ _ _ _ _ c.if-left-eq0.true ∙ c.loop-left.invariant.1.1.1.1

pub returns-then-size-eq0 : goal.returns-then-size-eq0
returns-then-size-eq0 c = no_size c.args.kind _ _ _ _ _ _ _ _ _ _ _ _ c.if-left-eq0.false _ (size_as c.args.kind _ _ _ _ _ c.header_size-header.ensures c.size_asked-size.ensures) c.if-size-eq0.true ∙ c.loop-left.invariant.1.1.1.1

pub fill_one-made-requires : goal.fill_one-made-requires
fill_one-made-requires c =
    let size = size_as c.args.kind _ _ _ _ _ c.header_size-header.ensures c.size_asked-size.ensures in (
      omega (arith, c.loop-left.invariant.0, c.requires.0),
      (
        field_room c.args.kind _ _ _ _ size c.if-size-eq0.false c.requires.1.1.0,
        omega (arith, size_room c.args.kind _ _ _ _ size c.if-size-eq0.false, c.loop-left.invariant.1.0, c.requires.1.1.1),
      ),
    )

pub overflow_add-header : goal.overflow_add-header
overflow_add-header c = omega (arith, c.header_size-header.ensures, chunk_room c.args.kind _ _ _ _ _ (size_as c.args.kind _ _ _ _ _ c.header_size-header.ensures c.size_asked-size.ensures) c.if-size-eq0.false (one_within c.args.kind _ _ _ _ _ _ _ _ _ _ _ _ _ (rw (rw c.in-Ok-Fragment.is at c.in-Ok-Fragment.field-0-is) at c.in-Ok-Fragment.ensures-1) _ _ refl), c.requires.1.1.0)

pub padded-used-requires : goal.padded-used-requires
padded-used-requires c = omega (arith, c.header_size-header.ensures, chunk_room c.args.kind _ _ _ _ _ (size_as c.args.kind _ _ _ _ _ c.header_size-header.ensures c.size_asked-size.ensures) c.if-size-eq0.false (one_within c.args.kind _ _ _ _ _ _ _ _ _ _ _ _ _ (rw (rw c.in-Ok-Fragment.is at c.in-Ok-Fragment.field-0-is) at c.in-Ok-Fragment.ensures-1) _ _ refl), c.requires.1.1.0)

pub overflow_add-used-in-Ok-Fragment : goal.overflow_add-used-in-Ok-Fragment
overflow_add-used-in-Ok-Fragment c = omega (arith, step_as c.args.kind _ _ _ c.header_size-header.ensures c.padded-used.ensures, chunk_room c.args.kind _ _ _ _ _ (size_as c.args.kind _ _ _ _ _ c.header_size-header.ensures c.size_asked-size.ensures) c.if-size-eq0.false (one_within c.args.kind _ _ _ _ _ _ _ _ _ _ _ _ _ (rw (rw c.in-Ok-Fragment.is at c.in-Ok-Fragment.field-0-is) at c.in-Ok-Fragment.ensures-1) _ _ refl), c.requires.1.1.0)

pub loop-left-preserved : goal.loop-left-preserved
loop-left-preserved c =
    let size = size_as c.args.kind _ _ _ _ _ c.header_size-header.ensures c.size_asked-size.ensures in
    let step = step_as c.args.kind _ _ _ c.header_size-header.ensures c.padded-used.ensures in (
      c.events-1.given ∙ c.loop-left.invariant.0,
      (
        c.packet-1.given ∙ c.loop-left.invariant.1.0,
        (
          omega (arith, step, chunk_room c.args.kind _ _ _ _ _ (size_as c.args.kind _ _ _ _ _ c.header_size-header.ensures c.size_asked-size.ensures) c.if-size-eq0.false (one_within c.args.kind _ _ _ _ _ _ _ _ _ _ _ _ _ (rw (rw c.in-Ok-Fragment.is at c.in-Ok-Fragment.field-0-is) at c.in-Ok-Fragment.ensures-1) _ _ refl)),
          (
            omega (arith, c.loop-left.invariant.1.1.1.0, c.if-left-eq0.false),
            goes_on c.args.kind _ _ _ _ _ _ _ _ _ _ _ _ c.if-left-eq0.false _ size c.if-size-eq0.false _ _ _ _ (rw (rw c.in-Ok-Fragment.is at c.in-Ok-Fragment.field-0-is) at c.in-Ok-Fragment.ensures-1) _ _ _ _ refl step c.next_tsn-tsn.ensures ∙ c.loop-left.invariant.1.1.1.1,
          ),
        ),
      ),
    )

pub returns-in-Ok-Nothing : goal.returns-in-Ok-Nothing
returns-in-Ok-Nothing c =
    ends_nothing c.args.kind _ _ _ _ _ _ _ _ _ _ _ _ c.if-left-eq0.false _ (size_as c.args.kind _ _ _ _ _ c.header_size-header.ensures c.size_asked-size.ensures) c.if-size-eq0.false _ _ _ _ (rw (rw c.in-Ok-Nothing.is at c.in-Ok-Nothing.field-0-is) at c.in-Ok-Nothing.ensures-1) _ refl
    ∙ c.loop-left.invariant.1.1.1.1

pub returns-in-Err : goal.returns-in-Err
returns-in-Err c =
    ends_refused c.args.kind _ _ _ _ _ _ _ _ _ _ _ _ c.if-left-eq0.false _ (size_as c.args.kind _ _ _ _ _ c.header_size-header.ensures c.size_asked-size.ensures) c.if-size-eq0.false _ _ _ _ c.in-Err.ensures _ refl
    ∙ c.loop-left.invariant.1.1.1.1
