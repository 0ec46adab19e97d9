-- What a call gives, from what the queue's function ensures on the words and what its answer is told by. Assumes nothing.
use Prim.Native.Nat.{ℕ}
use mathlib.Core.Path.{◌≡◌, refl}
use mathlib.Core.List.{List}
use Rattle.queue_streams.specs.Flag.{Flag}
use Rattle.queue_streams.specs.Number.{Number}
use Rattle.priority_plan.specs.PlannedPriorities.{PlannedPriorities}
use Rattle.queue_restarts.specs.Ready.{Readied, readied}
use Rattle.queue_restarts.specs.ReadyStreams.{ReadyStreams}
use Rattle.chunks.specs.Writing.{outcome, write_chunk}
use Rattle.chunks.specs.declared.chunk.ChunkKind.{ChunkKind}
use Rattle.queue_sending.specs.declared.data.DataToSend.{DataToSend}
use Rattle.chunks.specs.ChunkRead.{ChunkRead}
use Rattle.chunks.specs.ChunkWritten.{ChunkWritten}
use Rattle.queue_streams.specs.Answers.{call_number, number_number, flag_number}
pub use Rattle.host_numbers.proofs.Gives.{gives, gives_events, gives_store, gives_fragment, gives_image}
use Rattle.send_queue_c.specs.Numbers.{number_out, flag_out, ready_number, ready_ids, ready_out, planned_places}
use Rattle.send_queue_c.specs.Chunks.{written_number, written_out, read_number, read_out, read_places}
use Rattle.send_queue_c.specs.Given.{GivesIds, GivesPriorities, GivesWritten, GivesRead, GivesNumber, GivesFlag}

pub gives_ids : (d : Readied) (a : ReadyStreams) (ids out : List ℕ) (r : ℕ) (ws' ids' out' : List ℕ) → readied a ws' ≡ d → (r ≡ ready_number a) × (ids' ≡ ready_ids ids a) × (out' ≡ ready_out out a) → GivesIds d ids out r ws' ids' out'
gives_ids d a ids out r ws' ids' out' e t = rw (← e) (record { number = t.0; queue = refl; ready = t.1; places = t.2 })

pub gives_number : (d a : Number) (out : List ℕ) (r : ℕ) (out' : List ℕ) → a ≡ d → (r ≡ number_number a) × (out' ≡ number_out out a) → GivesNumber d out r out'
gives_number d a out r out' e t = rw (← e) (record { number = t.0; places = t.1 })

pub gives_flag : (d a : Flag) (out : List ℕ) (r : ℕ) (out' : List ℕ) → a ≡ d → (r ≡ flag_number a) × (out' ≡ flag_out out a) → GivesFlag d out r out'
gives_flag d a out r out' e t = rw (← e) (record { number = t.0; places = t.1 })

pub gives_priorities : (d a : PlannedPriorities) (places : List ℕ) (r : ℕ) (places' : List ℕ) → a ≡ d → (r ≡ call_number a.answer) × (places' ≡ planned_places places a) → GivesPriorities d places r places'
gives_priorities d a places r places' e t = rw (← e) (record { number = t.0; priorities = t.1 })

-- the kind and the fragment are those that the numbers stand for
pub gives_written : (bs : List ℕ) (k k' : ChunkKind) (tsn : ℕ) (f f' : DataToSend) (p : List ℕ) (a : ChunkWritten) (out : List ℕ) (r : ℕ) (bs' out' : List ℕ) → outcome a bs' ≡ write_chunk bs k tsn f p → k ≡ k' → f ≡ f'
    → (r ≡ written_number a) × (out' ≡ written_out out a) → GivesWritten (write_chunk bs k' tsn f' p) out r bs' out'
gives_written bs k k' tsn f f' p a out r bs' out' e ek ef t = rw (← ek, ← ef, ← e) (record { number = t.0; output = refl; places = t.1 })

pub gives_read : (d a : ChunkRead) (out chunk : List ℕ) (r : ℕ) (out' chunk' : List ℕ) → a ≡ d → (r ≡ read_number a) × (out' ≡ read_out out a) × (chunk' ≡ read_places chunk a) → GivesRead d out chunk r out' chunk'
gives_read d a out chunk r out' chunk' e t = rw (← e) (record { number = t.0; fragment = t.1; places = t.2 })
