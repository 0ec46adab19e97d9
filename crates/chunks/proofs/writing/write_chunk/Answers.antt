-- `chunks::writing::write_chunk` meets its contract: each return is what its definition says, by what the calls ensure and the tests taken. Assumes nothing.
use Prim.Native.Nat.{◌<◌}
use mathlib.Core.Path.{sym}
use mathlib.Core.Logic.{inl, inr}
use Rattle.chunks.specs.Promise.{InWidth}
use Rattle.chunks.proofs.Fitting.{data_fits}
use Rattle.chunks.proofs.Theorems.{refuses_17}
use Rattle.chunks.proofs.Meets.{refused_meets, written_meets}
use Rattle.chunks.proofs.WriteCases.{nonzero, short_refused, room_for_lem, chunk_written}
use Rattle.std.proofs.Common.{rules}
use Rattle.chunks.proofs.writing.write_chunk.Goals as goal

pub returns-then-n-eq0 : goal.returns-then-n-eq0
returns-then-n-eq0 c = refused_meets _ _ _ _ _ _ (sym (refuses_17 _ _ _ _ _ (inl c.if-n-eq0.true)))

pub returns-then-n-gt-MAX_WRITTEN : goal.returns-then-n-gt-MAX_WRITTEN
returns-then-n-gt-MAX_WRITTEN c = refused_meets _ _ _ _ _ _ (sym (refuses_17 _ _ _ _ _ (inr c.if-n-gt-MAX_WRITTEN.true)))

pub returns-then-output-end : goal.returns-then-output-end
returns-then-output-end c = refused_meets _ _ _ _ _ _ (short_refused c.args.kind _ _ _ c.args.payload.now _ _ c.header_size-size.ensures c.padded-end.ensures c.if-n-eq0.false c.if-n-gt-MAX_WRITTEN.false c.if-output-end.true)

pub returns : goal.returns
returns c =
    let a = c.args in
    let size = c.header_size-size.ensures in
    let end = c.padded-end.ensures in
    let some = c.if-n-eq0.false in
    let most = c.if-n-gt-MAX_WRITTEN.false in
    let room = c.if-output-end.false in
    let tsn_fits : a.tsn < 4294967296 = search rules in
    let typed : InWidth a.tsn a.fragment.«data» = data_fits a.tsn a.fragment.«data» _ tsn_fits c.well_formed.1.1.1.0.1.1.1.0 in
    written_meets a.output.now a.kind a.tsn a.fragment a.payload.now _ _ (nonzero _ some) most (room_for_lem a.kind a.output.now a.payload.now _ _ size end room)
    (chunk_written a.kind _ _ _ _ a.payload.now _ _ size end some most room c.put_chunk.ensures)
    typed
