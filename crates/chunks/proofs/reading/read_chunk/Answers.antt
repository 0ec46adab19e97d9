-- `chunks::reading::read_chunk` meets its contract: each return is what its definition says, by what the calls ensure and the tests taken. Assumes nothing.
use Rattle.big_endian.proofs.Typed.{bytes_fit}
use Rattle.chunks.proofs.ReadCases.{short_refused, length_refused, data_empty, data_read, i_data_empty, i_data_read, type_refused}
use Rattle.chunks.proofs.Meets.{read_meets}
use Rattle.chunks.proofs.reading.read_chunk.Goals as goal

pub returns-then-n-lt-DATA_HEADER : goal.returns-then-n-lt-DATA_HEADER
returns-then-n-lt-DATA_HEADER c = read_meets _ _ (bytes_fit c.args.bytes.now c.shared_slice_known-1.given) (short_refused _ c.if-n-lt-DATA_HEADER.true)

pub returns-then-padded-n : goal.returns-then-padded-n
returns-then-padded-n c = read_meets _ _ (bytes_fit c.args.bytes.now c.shared_slice_known-1.given) (length_refused _ _ _ _ c.read_u16-len.ensures c.read_u8-kind.ensures c.padded.ensures c.if-padded-n.true)

pub returns-then-len-le16 : goal.returns-then-len-le16
returns-then-len-le16 c = read_meets _ _ (bytes_fit c.args.bytes.now c.shared_slice_known-1.given) (data_empty _ _ _ _ c.read_u16-len.ensures c.read_u8-kind.ensures c.padded.ensures c.if-padded-n.false c.if-kind-eq-DATA_TYPE.true c.if-len-le16.true)

pub returns-then-kind-eq-DATA_TYPE : goal.returns-then-kind-eq-DATA_TYPE
returns-then-kind-eq-DATA_TYPE c = read_meets _ _ (bytes_fit c.args.bytes.now c.shared_slice_known-1.given) (data_read _ _ _ _ c.read_u16-len.ensures c.read_u8-kind.ensures c.padded.ensures c.if-padded-n.false c.if-kind-eq-DATA_TYPE.true c.if-len-le16.false _ c.read_data.ensures)

pub returns-then-len-le20 : goal.returns-then-len-le20
returns-then-len-le20 c = read_meets _ _ (bytes_fit c.args.bytes.now c.shared_slice_known-1.given) (i_data_empty _ _ _ _ c.read_u16-len.ensures c.read_u8-kind.ensures c.padded.ensures c.if-padded-n.false c.if-kind-eq-DATA_TYPE.false c.if-kind-eq-I_DATA_TYPE.true c.if-len-le20.true)

pub returns-then-kind-eq-I_DATA_TYPE : goal.returns-then-kind-eq-I_DATA_TYPE
returns-then-kind-eq-I_DATA_TYPE c = read_meets _ _ (bytes_fit c.args.bytes.now c.shared_slice_known-1.given) (i_data_read _ _ _ _ c.read_u16-len.ensures c.read_u8-kind.ensures c.padded.ensures c.if-padded-n.false c.if-kind-eq-DATA_TYPE.false c.if-kind-eq-I_DATA_TYPE.true c.if-len-le20.false _ c.read_i_data.ensures)

pub returns : goal.returns
returns c = read_meets _ _ (bytes_fit c.args.bytes.now c.shared_slice_known-1.given) (type_refused _ _ _ _ c.read_u16-len.ensures c.read_u8-kind.ensures c.padded.ensures c.if-padded-n.false c.if-kind-eq-DATA_TYPE.false c.if-kind-eq-I_DATA_TYPE.false)
