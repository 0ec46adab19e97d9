-- What the calls of the stream reset handler give, from what its functions ensure and what their answers are told by. Assumes nothing.
use Prim.Native.Nat.{ℕ}
use mathlib.Core.Path.{◌≡◌, subst}
use mathlib.Core.List.{List}
use borrow.Author.Tests.{eq-eqb, ne_eqb}
use lib.ListN.{get_or}
use Rattle.queue_streams.specs.Answers.{call_number}
use Rattle.stream_reset_handler.specs.declared.handler.StreamResetHandler.{StreamResetHandler}
use Rattle.std.specs.Prelude.{Some, None}
use Rattle.stream_reset_handler.specs.MadeRequest.{MadeRequest}
use Rattle.stream_reset_handler.specs.HandledResponse.{HandledResponse}
use Rattle.stream_reset_handler.specs.QueueReset.{QueueReset}
use Rattle.stream_reset_handler.specs.Making.{MakeMeets}
use Rattle.stream_reset_handler.specs.Receiving.{HandleMeets, ResetHandlerMeets}
use Rattle.host_handler.specs.Handler.{handler_in, request_number, request_out, request_handler, response_number_words, response_out, response_handler, reset_handler, GivesRequest, GivesResponse, GivesReset}

pub in_none : (hs : List ℕ) → get_or hs 1 0 ≡ 0 → record { next_number = get_or hs 0 0; underway = None } ≡ handler_in hs
in_none hs e = rw (eq-eqb (get_or hs 1 0) 0 e)

pub in_one : (hs : List ℕ) → (get_or hs 1 0 ≡ 0 → ⊥) → record { next_number = get_or hs 0 0; underway = Some (get_or hs 2 0) } ≡ handler_in hs
in_one hs e = rw (ne_eqb (get_or hs 1 0) 0 e)

pub gives_request : (ws hs bs : List ℕ) (response_number last_tsn : ℕ) (out : List ℕ) (h : StreamResetHandler) (m : MadeRequest) (r : ℕ) (ws' hs' bs' out' : List ℕ)
    → h ≡ handler_in hs → MakeMeets ws h bs response_number last_tsn m ws' bs'
    → (r ≡ request_number m.answer) × (out' ≡ request_out out m.answer) × (hs' ≡ request_handler hs m.answer m.handler) → GivesRequest ws hs bs response_number last_tsn out r ws' hs' bs' out'
gives_request ws hs bs response_number last_tsn out h m r ws' hs' bs' out' e k t =
    record { made = m; meets = subst (λ (x : StreamResetHandler). MakeMeets ws x bs response_number last_tsn m ws' bs') e k; number = t.0; places = t.1; handler = t.2 }

pub gives_response : (ws hs bs out : List ℕ) (h : StreamResetHandler) (a : HandledResponse) (r : ℕ) (ws' hs' out' : List ℕ)
    → h ≡ handler_in hs → HandleMeets ws h bs a ws' → hs' ≡ response_handler hs a.answer a.handler → (r ≡ response_number_words a.answer) × (out' ≡ response_out out a.answer) → GivesResponse ws hs bs out r ws' hs' out'
gives_response ws hs bs out h a r ws' hs' out' e k f t =
    record { handled = a; meets = subst (λ (x : StreamResetHandler). HandleMeets ws x bs a ws') e k; number = t.0; places = t.1; handler = f }

pub gives_reset : (ws hs : List ℕ) (h : StreamResetHandler) (a : QueueReset) (r : ℕ) (ws' hs' : List ℕ)
    → h ≡ handler_in hs → ResetHandlerMeets ws h a ws' → (r ≡ call_number a.answer) × (hs' ≡ reset_handler hs a.answer a.handler) → GivesReset ws hs r ws' hs'
gives_reset ws hs h a r ws' hs' e k t = record { reset = a; meets = subst (λ (x : StreamResetHandler). ResetHandlerMeets ws x a ws') e k; number = t.0; handler = t.1 }
