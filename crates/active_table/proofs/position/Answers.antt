-- The first place at which the test passes is the row that is sought, row by row.
use Rattle.std.proofs.Common.{◌≡◌, ℕ, zero, suc, ◌+◌, ◌≤◌, List, [], ◌∷◌, length, Bool, not, sym, ap, ◌∙◌, arith, rules, tests}
use Rattle.std.specs.Prelude.{eqb, ltb, cond, Some, None}
use Rattle.std.specs.List.{position_or_len}
use Rattle.std.specs.Option.{unwrap_or}
use Rattle.std.proofs.lemmas.Iterator.{YieldsList-from_slice}
use Rattle.std.proofs.lemmas.Iterator.Search.{position_from_yields_List}
use Rattle.std.proofs.lemmas.List.Sums.{prefix_len-le-length}
use borrow.Author.Tests.{lt-ltb, le-ltb, eq-eqb, ne_eqb}
use Rattle.queue_model.proofs.Tests.{less, same, more, tri}
use Rattle.queue_words.proofs.Finds.{by_lt}
use Rattle.queue_words.specs.declared.active.ActiveStreamInfo.{ActiveStreamInfo}
use Rattle.active_table.specs.Rows.{seek_from}
use Rattle.active_table.specs.Parts.{rows_of}
use Rattle.active_table.proofs.Laws.{seek_hit, seek_miss, seek_none}
use Rattle.active_table.proofs.position.Goals as goal

by_eq : {G : Type 0} (a b : ℕ) → (a ≡ b → G) → ((a ≡ b → ⊥) → G) → G
by_eq a b f g = elim (tri a b) [
  | less l ↦ g (λ e. omega arith)
  | same e ↦ f e
  | more l ↦ g (λ e. omega arith)
]

module _ (id : ℕ) where
  abbrev own : ActiveStreamInfo → Bool
  own r = eqb r.stream_id.0 id

  later : (rows : ℕ → ActiveStreamInfo) (i n : ℕ) → seek_from rows id (suc i) n ≡ suc (seek_from (λ k. rows (suc k)) id i n)
  later rows i zero = seek_none rows id (suc i) ∙ ap suc (sym (seek_none (λ k. rows (suc k)) id i))
  later rows i (suc n) = by_eq (rows (suc i)).stream_id.0 id
      (λ e. seek_hit rows id (suc i) n e ∙ ap suc (sym (seek_hit (λ k. rows (suc k)) id i n e)))
      (λ e. seek_miss rows id (suc i) n e ∙ (later rows (suc i) n ∙ ap suc (sym (seek_miss (λ k. rows (suc k)) id i n e))))

  place : (t : List ActiveStreamInfo) → position_or_len own t ≡ seek_from (rows_of t) id 0 (length t)
  place [] = sym (seek_none (rows_of []) id 0)
  place (r ∷ t) = by_eq r.stream_id.0 id
      (λ e. rw (seek_hit (rows_of (r ∷ t)) id 0 (length t) e, eq-eqb _ _ e))
      (λ e.
      let s : 1 + position_or_len own t ≡ suc (position_or_len own t) = omega arith in
      rw (seek_miss (rows_of (r ∷ t)) id 0 (length t) e, ne_eqb _ _ e) (s ∙ (ap suc (place t) ∙ sym (later (rows_of (r ∷ t)) 0 (length t)))))

  found : (t : List ActiveStreamInfo) → unwrap_or (cond (ltb (position_or_len own t) (length t)) (Some (position_or_len own t)) None) (length t) ≡ position_or_len own t
  found t = by_lt (position_or_len own t) (length t)
      (λ l. rw (lt-ltb _ _ l))
      (λ l. let h : position_or_len own t ≤ length t = prefix_len-le-length (λ r. not (own r)) t in rw (le-ltb _ _ l) (omega arith))

pub returns : goal.returns
returns c =
    let h : c.position-found.result ≡ cond (ltb (position_or_len (own c.args.stream_id) c.args.table.now) (length c.args.table.now)) (Some (position_or_len (own c.args.stream_id) c.args.table.now)) None =
    position_from_yields_List (own c.args.stream_id) _ _ c.position-found.result c.position-found.ensures.ran (YieldsList-from_slice c.args.table.now c.iter.ensures.rest) (λ x b q k. search (rules, tests)) in
    c.unwrap_or.ensures ∙ (ap (λ o. unwrap_or o (length c.args.table.now)) h ∙ (found c.args.stream_id c.args.table.now ∙ place c.args.stream_id c.args.table.now))
