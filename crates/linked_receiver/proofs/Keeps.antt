-- What each change of an index leaves alone. Assumes nothing.
use mathlib.Core.Path.{◌≡◌, refl, ap, ◌∙◌, subst}
use mathlib.Core.List.{List}
use Prim.Native.Nat.{ℕ, ◌+◌, ◌<◌}
use native.Mathlib.Omega.{arith}
use borrow.Author.Tests.{le-leb, lt-leb}
use Rattle.receiver_words.specs.Tables.{Header, Buckets, Fragments, Turns, Links, word_at, put_word}
use Rattle.receiver_words.specs.Fragments.{fragment_of, fragment_at}
use Rattle.receiver_words.specs.Turns.{turn_of, turn_at}
use Rattle.receiver_words.specs.Index.{before_from, follow, index_row, unindex_row, index_last}
use Rattle.receiver_words.specs.Frames.{Frame}
use Rattle.receiver_words.proofs.Laws.{whole_put_word, word_put_beside, word_put_other, word_put_table, row_put_word_table}
use Rattle.receiver_words.proofs.Rows.{by_row}
use Rattle.receiver_words.proofs.Frames.{frame_link}
use Rattle.receiver_model.proofs.Lists.{equal, other, compare_same}
use Rattle.linked_receiver.specs.Kept.{Kept}

pub kept_none : (ws : List ℕ) (h h' k k' b : ℕ) → Kept ws ws h h' k k' b
kept_none ws h h' k k' b = record {
  long = refl;
  header = λ m a c d. refl;
  links = λ x m a c d e. refl;
  buckets = λ x m a c d. refl;
  words = λ z j m a c d e f. refl;
  tables = λ z j a c d e. refl;
}

pub kept_both : (ws ws' ws'' : List ℕ) (h h' k k' b : ℕ) → Kept ws ws' h h' k k' b → Kept ws' ws'' h h' k k' b → Kept ws ws'' h h' k k' b
kept_both ws ws' ws'' h h' k k' b f g = record {
  long = g.long ∙ f.long;
  header = λ m a c d. g.header m a c d ∙ f.header m a c d;
  links = λ x m a c d e. g.links x m a c d e ∙ f.links x m a c d e;
  buckets = λ x m a c d. g.buckets x m a c d ∙ f.buckets x m a c d;
  words = λ z j m a c d e i. g.words z j m a c d e i ∙ f.words z j m a c d e i;
  tables = λ z j a c d e. g.tables z j a c d e ∙ f.tables z j a c d e;
}

-- what changes no bucket
pub kept_frame : (ws ws' : List ℕ) (h h' k k' b : ℕ) → Frame ws ws' h h' k k' → Kept ws ws' h h' k k' b
kept_frame ws ws' h h' k k' b f = record {
  long = f.long;
  header = f.header;
  links = f.links;
  buckets = λ x m a c d. f.words Buckets x m refl refl a c;
  words = λ z j m a c d e i. f.words z j m a c e i;
  tables = λ z j a c d e. f.tables z j a c e;
}

-- what changes no word of the header
pub kept_wider : (ws ws' : List ℕ) (h h' k k' b : ℕ) → Kept ws ws' 16 16 k k' b → Kept ws ws' h h' k k' b
kept_wider ws ws' h h' k k' b f = record {
  long = f.long;
  header = λ m a c d. f.header m a (λ e. omega arith) (λ e. omega arith);
  links = f.links;
  buckets = f.buckets;
  words = f.words;
  tables = f.tables;
}

-- ------------------------------------------------------------------ index k

kept_bucket : (ws : List ℕ) (c k v : ℕ) → c < 4096 → k < 3 → Kept ws (put_word Buckets ws c k v) 16 16 (5 + k) (5 + k) k
kept_bucket ws c k v hc hk = record {
  long = whole_put_word Buckets ws c k v;
  header = λ m a d e. word_put_table Buckets Header ws c k v 0 m refl hc (omega arith) hk a;
  links = λ x m a d e f. word_put_table Buckets Links ws c k v x m refl hc a hk d;
  buckets = λ x m a d e. elim (compare_same c x) [
    | equal s ↦ subst (λ (y : ℕ). word_at Buckets (put_word Buckets ws c k v) y m ≡ word_at Buckets ws y m) s (word_put_beside Buckets ws c k v m e)
    | other n ↦ word_put_other Buckets ws c k v x m n hk d
  ];
  words = λ z j m a d e f i. word_put_table Buckets z ws c k v j m e hc f hk i;
  tables = λ z j a d e f. row_put_word_table Buckets z ws c k v j e hc f hk;
}

kept_link : (ws : List ℕ) (p k v : ℕ) → p < 4096 → k < 3 → Kept ws (put_word Links ws p (5 + k) v) 16 16 (5 + k) (5 + k) k
kept_link ws p k v hp hk = kept_frame ws (put_word Links ws p (5 + k) v) 16 16 (5 + k) (5 + k) k (frame_link ws p v 16 16 (5 + k) (5 + k) hp (omega arith))

pub index_kept : (ws : List ℕ) (k c i : ℕ) → k < 3 → c < 4096 → i < 4096 → Kept ws (index_row ws k c i) 16 16 (5 + k) (5 + k) k
unfolding index_row
index_kept ws k c i hk hc hi =
    let v = word_at Buckets ws c k in
    let a = put_word Links ws i (5 + k) v in
    kept_both ws a (put_word Buckets a c k i) 16 16 (5 + k) (5 + k) k (kept_link ws i k v hi hk) (kept_bucket a c k i hc hk)

follow_kept : (ws : List ℕ) (k c p v : ℕ) → k < 3 → c < 4096 → Kept ws (follow ws k c p v) 16 16 (5 + k) (5 + k) k
unfolding follow
follow_kept ws k c p v hk hc =
    by_row p
    (λ h. rw (lt-leb 4096 p h) (kept_link ws p k v h hk))
    (λ h. rw (le-leb 4096 p h) (kept_bucket ws c k v hc hk))

pub unindex_kept : (ws : List ℕ) (k c i : ℕ) → k < 3 → c < 4096 → Kept ws (unindex_row ws k c i) 16 16 (5 + k) (5 + k) k
unfolding unindex_row
unindex_kept ws k c i hk hc = follow_kept ws k c (before_from ws k i (word_at Buckets ws c k) 4096) (word_at Links ws i (5 + k)) hk hc

pub last_kept : (ws : List ℕ) (k c i : ℕ) → k < 3 → c < 4096 → i < 4096 → Kept ws (index_last ws k c i) 16 16 (5 + k) (5 + k) k
unfolding index_last
last_kept ws k c i hk hc hi =
    let a = put_word Links ws i (5 + k) 4096 in
    let p = before_from ws k 4096 (word_at Buckets ws c k) 4096 in
    kept_both ws a (follow a k c p i) 16 16 (5 + k) (5 + k) k (kept_link ws i k 4096 hi hk) (follow_kept a k c p i hk hc)

-- ------------------------------------------------------------------ what is read of the other tables

module _ (ws ws' : List ℕ) (h h' k k' b : ℕ) (f : Kept ws ws' h h' k k' b) where
  pub kept_fragment : (x : ℕ) → x < 4096 → fragment_at ws' x ≡ fragment_at ws x
  kept_fragment x hx = ap fragment_of (f.tables Fragments x refl refl refl hx)

  pub kept_turn : (t : ℕ) → t < 256 → turn_at ws' t ≡ turn_at ws t
  kept_turn t ht = ap turn_of (f.tables Turns t refl refl refl ht)
