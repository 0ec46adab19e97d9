-- What a well-formed stream and queue is, as saving wants it (messages: specs/Well). Assumes nothing.
use mathlib.Core.List.{List}
use Prim.Native.Nat.{◌^◌, ◌≤◌, ◌<◌}
use lib.ListN.{length}
use Rattle.queue_model.specs.Types.{Stream, Queue}
use Rattle.queue_model.specs.Streams.{waiting, occupied, stream_key}
use Rattle.queue_model.specs.Bytes.{Fits}
use Rattle.queue_model.specs.Image.{stream_widths, stream_row, stream_record}
use Rattle.queue_model.specs.Table.{Rising, Every}
pub use Rattle.queue_model.specs.Well.{WellItem, WellRest, WellItems}

pub record WellStream (s : Stream) : Type 0 where
  pub stream_fits : Fits stream_widths (stream_row (stream_record s))
  pub well_items : WellItems s.items

abbrev pub AllWell : List Stream → Type 0
AllWell ss = Every WellStream ss

pub record WellQueue (q : Queue) : Type 0 where
  pub rising : Rising stream_key q.streams
  pub all_well : AllWell q.streams
  pub next_fits : q.next_message_id < 2 ^ 32
  pub default_fits : q.options.default_priority < 2 ^ 16
  pub streams_few : length q.streams ≤ 256
  pub messages_few : waiting q.streams ≤ 1024
  pub store_fits : occupied q.streams ≤ 2000000
