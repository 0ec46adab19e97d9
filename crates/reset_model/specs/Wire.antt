-- RE-CONFIG messages (RFC 6525) as bytes. Document 02, 9/13. Assumes nothing.
use Rattle.std.specs.Prelude.{ℕ, ◌+◌, ◌*◌, Bool, List, [], ◌∷◌, ◌++◌, eqb, leb, length, replicate}
use Rattle.std.proofs.Math.Option.{Option, none, some}
use Rattle.queue_model.specs.Bytes.{number_bytes, row_bytes}
use Rattle.queue_model.specs.Chunks.{padding, padded}
use Rattle.std.specs.Prelude.{if◌then◌else◌}
use Rattle.queue_model.specs.Logic.{all_true, only_if, and_then}
use Rattle.big_endian.specs.Numbers.{number_at}

-- "RE-CONFIG is chunk type 130".
abbrev pub re_config : ℕ
re_config = 130

-- ------------------------------------------------------------------ the request

-- "The outgoing request is parameter 13".
abbrev pub outgoing_request : ℕ
outgoing_request = 13

-- The lengths, without padding, of its parameter and of its chunk with n stream ids.
abbrev pub parameter_length : ℕ → ℕ
parameter_length n = 16 + 2 * n

abbrev pub chunk_length : ℕ → ℕ
chunk_length n = 20 + 2 * n

-- The length of the message: "padding as in 1/13".
abbrev pub request_size : ℕ → ℕ
request_size n = padded (chunk_length n)

unfoldable pub id_bytes : List ℕ → List ℕ
unfolding number_bytes
id_bytes [] = []
id_bytes (k ∷ ks) = number_bytes 2 k ++ id_bytes ks

-- "flags 0 [..], one parameter"; type, flags and "a 16-bit length without padding" (1/13). The parameter: its type, then "length, request number,
-- response number, last TSN
-- and the ready stream ids". The widths in bytes of all before the ids.
abbrev pub request_widths : List ℕ
request_widths = 1 ∷ 1 ∷ 2 ∷ 2 ∷ 2 ∷ 4 ∷ 4 ∷ 4 ∷ []

unfoldable pub request_head : ℕ → ℕ → ℕ → ℕ → List ℕ
unfolding row_bytes
request_head n number response_number last_tsn =
    row_bytes request_widths (re_config ∷ 0 ∷ chunk_length n ∷ outgoing_request ∷ parameter_length n ∷ number ∷ response_number ∷ last_tsn ∷ [])

unfoldable pub request_bytes : ℕ → ℕ → ℕ → List ℕ → List ℕ
unfolding request_head id_bytes padding
request_bytes number response_number last_tsn ids =
    request_head (length ids) number response_number last_tsn ++ (id_bytes ids ++ replicate (padding (chunk_length (length ids))) 0)

-- ------------------------------------------------------------------ the response

-- "Result 0 or 1 commits, 2 to 5 roll back, 6 keeps the same request waiting, and above 6 is malformed."
pub data Verdict : Type 0 where
  commits rolls_back keeps_waiting : Verdict

unfoldable pub verdict_of : ℕ → Option Verdict
verdict_of result = if leb result 1 then some commits else if leb result 5 then some rolls_back else if leb result 6 then some keeps_waiting else none

pub record Response : Type 0 where
  pub number : ℕ
  pub verdict : Verdict

-- "The response is parameter 16: length 12, request number, result", in a RE-CONFIG of flags "any when read". Its 16 bytes need no padding.
abbrev pub response_parameter : ℕ
response_parameter = 16

unfoldable pub is_response : List ℕ → Bool
unfolding number_at
is_response bs = all_true (eqb (length bs) 16 ∷ eqb (number_at bs 0 1) re_config ∷ eqb (number_at bs 2 2) 16 ∷ eqb (number_at bs 4 2) response_parameter ∷ eqb (number_at bs 6 2) 12 ∷ [])

-- None: "received bytes break this layout".
unfoldable pub read_response : List ℕ → Option Response
unfolding is_response number_at verdict_of only_if and_then
read_response bs = only_if (is_response bs) (and_then (verdict_of (number_at bs 12 4)) (λ (v : Verdict). some (record { number = number_at bs 8 4; verdict = v })))
