-- What a change of a chain or of a payload leaves alone. Assumes nothing.
use Rattle.std.specs.Prelude.{◌≡◌, true, List, ℕ, ◌<◌, length}
use Rattle.receiver_words.specs.Tables.{Table, Header, Links, rows, width, distinct, word_at, row_at}

-- nothing is changed but words h and h' of the header (16 for none) and words k and k' of the links
pub record Frame (ws ws' : List ℕ) (h h' k k' : ℕ) : Type 0 where
  pub long : length ws' ≡ length ws
  pub header : (m : ℕ) → m < 16 → (h ≡ m → ⊥) → (h' ≡ m → ⊥) → word_at Header ws' 0 m ≡ word_at Header ws 0 m
  pub links : (x m : ℕ) → x < 4096 → m < 8 → (k ≡ m → ⊥) → (k' ≡ m → ⊥) → word_at Links ws' x m ≡ word_at Links ws x m
  pub words : (z : Table) (j m : ℕ) → distinct Header z ≡ true → distinct Links z ≡ true → j < rows z → m < width z → word_at z ws' j m ≡ word_at z ws j m
  pub tables : (z : Table) (j : ℕ) → distinct Header z ≡ true → distinct Links z ≡ true → j < rows z → row_at z ws' j ≡ row_at z ws j
