-- `reset_wire::reading::read_response` meets its contract: each return is a case of `read_response` (proofs/Fields.antt). Assumes nothing.
use Rattle.reset_wire.proofs.Fields.{not_long, not_kind, not_size, not_parameter, not_longer, is_read}
use Rattle.reset_wire.proofs.reading.read_response.Goals as goal

pub returns-then-bytes-ne16 : goal.returns-then-bytes-ne16
returns-then-bytes-ne16 c = not_long _ c.if-bytes-ne16.true

pub returns-then-kind : goal.returns-then-kind
returns-then-kind c = not_kind _ c.if-bytes-ne16.false _ c.read_u8-kind.ensures c.if-kind.true

pub returns-then-chunk_length-ne-RESPONSE_CHUNK : goal.returns-then-chunk_length-ne-RESPONSE_CHUNK
returns-then-chunk_length-ne-RESPONSE_CHUNK c = not_size _ c.if-bytes-ne16.false _ c.read_u8-kind.ensures c.if-kind.false _ c.read_u16-chunk_length.ensures c.if-chunk_length-ne-RESPONSE_CHUNK.true

pub returns-then-parameter-ne-RESPONSE : goal.returns-then-parameter-ne-RESPONSE
returns-then-parameter-ne-RESPONSE c = not_parameter _ c.if-bytes-ne16.false _ c.read_u8-kind.ensures c.if-kind.false _ c.read_u16-chunk_length.ensures c.if-chunk_length-ne-RESPONSE_CHUNK.false _ c.read_u16-parameter.ensures c.if-parameter-ne-RESPONSE.true

pub returns-then-parameter_length-ne-RESPONSE_LENGTH : goal.returns-then-parameter_length-ne-RESPONSE_LENGTH
returns-then-parameter_length-ne-RESPONSE_LENGTH c = not_longer _ c.if-bytes-ne16.false _ c.read_u8-kind.ensures c.if-kind.false _ c.read_u16-chunk_length.ensures c.if-chunk_length-ne-RESPONSE_CHUNK.false _ c.read_u16-parameter.ensures c.if-parameter-ne-RESPONSE.false _ c.read_u16-parameter_length.ensures c.if-parameter_length-ne-RESPONSE_LENGTH.true

pub returns : goal.returns
returns c = is_read _ c.if-bytes-ne16.false _ c.read_u8-kind.ensures c.if-kind.false _ c.read_u16-chunk_length.ensures c.if-chunk_length-ne-RESPONSE_CHUNK.false _ c.read_u16-parameter.ensures c.if-parameter-ne-RESPONSE.false _ c.read_u16-parameter_length.ensures c.if-parameter_length-ne-RESPONSE_LENGTH.false _ _ _ c.read_u32-number.ensures c.read_u32-result.ensures c.judge.ensures
