-- What each change of a chain leaves alone. Assumes nothing.
use mathlib.Core.Path.{refl, sym, ◌∙◌, subst}
use mathlib.Core.List.{List}
use Prim.Native.Nat.{ℕ, ◌+◌, ◌<◌}
use native.Mathlib.Omega.{arith}
use Rattle.receiver_words.specs.Tables.{Header, Links, word_at, put_word}
use Rattle.receiver_words.specs.Chains.{put_end, give_free, link_newest, unlink_row, append_message}
use Rattle.receiver_words.specs.Frames.{Frame}
use Rattle.receiver_words.proofs.Laws.{whole_put_word, word_put_beside, word_put_table, row_put_word_table}
use Rattle.receiver_words.proofs.Rows.{by_row}
use Rattle.receiver_words.proofs.Ends.{end_row, end_none, link_beside}

pub frame_none : (ws : List ℕ) (h h' k k' : ℕ) → Frame ws ws h h' k k'
frame_none ws h h' k k' = record {
  long = refl;
  header = λ m a b c. refl;
  links = λ x m a b c d. refl;
  words = λ z j m a b c d. refl;
  tables = λ z j a b c. refl;
}

pub frame_both : (ws ws' ws'' : List ℕ) (h h' k k' : ℕ) → Frame ws ws' h h' k k' → Frame ws' ws'' h h' k k' → Frame ws ws'' h h' k k'
frame_both ws ws' ws'' h h' k k' f g = record {
  long = g.long ∙ f.long;
  header = λ m a b c. g.header m a b c ∙ f.header m a b c;
  links = λ x m a b c d. g.links x m a b c d ∙ f.links x m a b c d;
  words = λ z j m a b c d. g.words z j m a b c d ∙ f.words z j m a b c d;
  tables = λ z j a b c. g.tables z j a b c ∙ f.tables z j a b c;
}

pub frame_swap : (ws ws' : List ℕ) (h h' k k' : ℕ) → Frame ws ws' h h' k k' → Frame ws ws' h' h k' k
frame_swap ws ws' h h' k k' f = record {
  long = f.long;
  header = λ m a b c. f.header m a c b;
  links = λ x m a b c d. f.links x m a b d c;
  words = f.words;
  tables = f.tables;
}

-- one word of a row's links
pub frame_link : (ws : List ℕ) (p v h h' k k' : ℕ) → p < 4096 → k < 8 → Frame ws (put_word Links ws p k v) h h' k k'
frame_link ws p v h h' k k' hp hk = record {
  long = whole_put_word Links ws p k v;
  header = λ m a b c. word_put_table Links Header ws p k v 0 m refl hp (omega arith) hk a;
  links = λ x m a b c d. link_beside ws p k v x m hk b c;
  words = λ z j m a b c d. word_put_table Links z ws p k v j m b hp c hk d;
  tables = λ z j a b c. row_put_word_table Links z ws p k v j b hp c hk;
}

-- one word of the header
pub frame_header : (ws : List ℕ) (v h h' k k' : ℕ) → h < 16 → Frame ws (put_word Header ws 0 h v) h h' k k'
frame_header ws v h h' k k' hh = record {
  long = whole_put_word Header ws 0 h v;
  header = λ m a b c. word_put_beside Header ws 0 h v m b;
  links = λ x m a b c d. word_put_table Header Links ws 0 h v x m refl (omega arith) a hh b;
  words = λ z j m a b c d. word_put_table Header z ws 0 h v j m a (omega arith) c hh d;
  tables = λ z j a b c. row_put_word_table Header z ws 0 h v j a (omega arith) c hh;
}

-- an end of a chain
pub frame_end : (ws : List ℕ) (p v h h' k k' : ℕ) → k < 8 → h < 16 → Frame ws (put_end ws p k h v) h h' k k'
frame_end ws p v h h' k k' hk hh =
    by_row p
    (λ b. subst (λ (r : List ℕ). Frame ws r h h' k k') (sym (end_row ws p k h v b)) (frame_link ws p v h h' k k' b hk))
    (λ b. subst (λ (r : List ℕ). Frame ws r h h' k k') (sym (end_none ws p k h v b)) (frame_header ws v h h' k k' hh))

pub link_frame : (ws : List ℕ) (i : ℕ) → i < 4096 → Frame ws (link_newest ws i) 8 9 3 4
unfolding link_newest
link_frame ws i hi =
    let n = word_at Header ws 0 8 in
    let a = put_word Links ws i 3 n in
    let b = put_word Links a i 4 4096 in
    let c = put_end b n 4 9 i in
    frame_both ws a (put_word Header c 0 8 i) 8 9 3 4 (frame_link ws i n 8 9 3 4 hi (omega arith))
    (frame_both a b (put_word Header c 0 8 i) 8 9 3 4 (frame_swap a b 9 8 4 3 (frame_link a i 4096 9 8 4 3 hi (omega arith)))
    (frame_both b c (put_word Header c 0 8 i) 8 9 3 4 (frame_swap b c 9 8 4 3 (frame_end b n i 9 8 4 3 (omega arith) (omega arith)))
    (frame_header c i 8 9 3 4 (omega arith))))

pub unlink_frame : (ws : List ℕ) (i : ℕ) → Frame ws (unlink_row ws i) 8 9 3 4
unfolding unlink_row
unlink_frame ws i =
    let o = word_at Links ws i 3 in
    let n = word_at Links ws i 4 in
    let a = put_end ws n 3 8 o in
    frame_both ws a (put_end a o 4 9 n) 8 9 3 4 (frame_end ws n o 8 9 3 4 (omega arith) (omega arith))
    (frame_swap a (put_end a o 4 9 n) 9 8 4 3 (frame_end a o n 9 8 4 3 (omega arith) (omega arith)))

pub append_frame : (ws : List ℕ) (k i : ℕ) → k < 15 → i < 4096 → Frame ws (append_message ws k i) k (k + 1) 7 7
unfolding append_message
append_frame ws k i hk hi =
    let n = word_at Header ws 0 (k + 1) in
    let a = put_word Links ws i 7 4096 in
    let b = put_end a n 7 k i in
    let c = put_word Header b 0 (k + 1) i in
    frame_both ws a c k (k + 1) 7 7 (frame_link ws i 4096 k (k + 1) 7 7 hi (omega arith))
    (frame_both a b c k (k + 1) 7 7 (frame_end a n i k (k + 1) 7 7 (omega arith) (omega arith))
    (frame_swap b c (k + 1) k 7 7 (frame_header b i (k + 1) k 7 7 (omega arith))))

pub give_frame : (ws : List ℕ) (i : ℕ) → i < 4096 → Frame ws (give_free ws i) 7 7 3 3
unfolding give_free
give_frame ws i hi =
    let n = word_at Header ws 0 7 in
    let a = put_word Links ws i 3 n in
    frame_both ws a (put_word Header a 0 7 i) 7 7 3 3 (frame_link ws i n 7 7 3 3 hi (omega arith)) (frame_header a i 7 7 3 3 (omega arith))
