-- `receiver_words::assembly::goes_on` meets its contract. Assumes nothing.
use mathlib.Core.List.{[]}
use Rattle.receiver_words.specs.Chunks.{kind_of, chunk_of}
use Rattle.receiver_words.proofs.Exits.{other_fsn, next_fsn, other_tsn, marked_first, next_tsn}
use Rattle.receiver_words.proofs.assembly.goes_on.Goals as goal

pub returns-then-g-fsn : goal.returns-then-g-fsn
returns-then-g-fsn c = other_fsn c.args.interleaved (chunk_of (kind_of c.args.interleaved) c.args.f []) (chunk_of (kind_of c.args.interleaved) c.args.g []) _ c.if-interleaved.true c.next_number-fsn.ensures c.if-g-fsn.true

pub returns-then-interleaved : goal.returns-then-interleaved
returns-then-interleaved c = next_fsn c.args.interleaved (chunk_of (kind_of c.args.interleaved) c.args.f []) (chunk_of (kind_of c.args.interleaved) c.args.g []) _ _ c.if-interleaved.true c.next_number-fsn.ensures c.if-g-fsn.false c.same_message.ensures

pub returns-then-g-tsn : goal.returns-then-g-tsn
returns-then-g-tsn c = other_tsn c.args.interleaved (chunk_of (kind_of c.args.interleaved) c.args.f []) (chunk_of (kind_of c.args.interleaved) c.args.g []) _ c.if-interleaved.false c.next_number-tsn.ensures c.if-g-tsn.true

pub returns-then-g : goal.returns-then-g
returns-then-g c = marked_first c.args.interleaved (chunk_of (kind_of c.args.interleaved) c.args.f []) (chunk_of (kind_of c.args.interleaved) c.args.g []) _ c.if-interleaved.false c.next_number-tsn.ensures c.if-g-tsn.false c.if-g.true

pub returns : goal.returns
returns c = next_tsn c.args.interleaved (chunk_of (kind_of c.args.interleaved) c.args.f []) (chunk_of (kind_of c.args.interleaved) c.args.g []) _ _ c.if-interleaved.false c.next_number-tsn.ensures c.if-g-tsn.false c.if-g.false c.same_message-2.ensures
