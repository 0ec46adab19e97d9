-- `receiver_words::assembly::same_message` meets its contract. Assumes nothing.
use mathlib.Core.List.{[]}
use Rattle.receiver_words.specs.Chunks.{kind_of, chunk_of}
use Rattle.receiver_words.proofs.Exits.{other_stream, other_mark, by_mid, by_ssn}
use Rattle.receiver_words.proofs.assembly.same_message.Goals as goal

pub returns-then-f-g : goal.returns-then-f-g
returns-then-f-g c = other_stream c.args.interleaved (chunk_of (kind_of c.args.interleaved) c.args.f []) (chunk_of (kind_of c.args.interleaved) c.args.g []) c.if-f-g.true

pub returns-then-f-g-2 : goal.returns-then-f-g-2
returns-then-f-g-2 c = other_mark c.args.interleaved (chunk_of (kind_of c.args.interleaved) c.args.f []) (chunk_of (kind_of c.args.interleaved) c.args.g []) c.if-f-g.false c.if-f-g-2.true

pub returns-then-interleaved : goal.returns-then-interleaved
returns-then-interleaved c = by_mid c.args.interleaved (chunk_of (kind_of c.args.interleaved) c.args.f []) (chunk_of (kind_of c.args.interleaved) c.args.g []) c.if-interleaved.true c.if-f-g.false c.if-f-g-2.false

pub returns : goal.returns
returns c = by_ssn c.args.interleaved (chunk_of (kind_of c.args.interleaved) c.args.f []) (chunk_of (kind_of c.args.interleaved) c.args.g []) c.if-interleaved.false c.if-f-g.false c.if-f-g-2.false
