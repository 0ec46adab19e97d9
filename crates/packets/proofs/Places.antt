-- Laws of writing into a packet: what is there, a front part, one write before another; and a chunk around its payload. Assumes nothing.
use mathlib.Core.Path.{◌≡◌, sym, ap, ap₂, ◌∙◌, subst}
use mathlib.Core.List.{List, ◌++◌, append_assoc}
use Prim.Native.Nat.{ℕ, ◌+◌, ◌≤◌}
use native.Mathlib.Omega.{arith}
use lib.ListN.{length, take, drop, replicate, length-append, length-drop, length-replicate, take-append-drop}
use lib.Seq.{length-take-le, take-append-le, drop-append-le, take-take, drop-drop, drop_at}
use Rattle.queue_model.specs.Bytes.{row_bytes}
use Rattle.queue_model.specs.Chunks.{padding, padded, chunk_layout, model_chunk_bytes}
use Rattle.queue_sending.specs.declared.data.Data.{Data}
use Rattle.big_endian.specs.Numbers.{wrote}
use Rattle.big_endian.proofs.Halves.{wrote_twice}
use Rattle.chunks.specs.Layout.{header_size, header_widths, header_row, flags_of, chunk_bytes}
use Rattle.chunks.specs.declared.chunk.ChunkKind.{ChunkKind}
use Rattle.chunks.proofs.WriteCases.{header_length}
use Rattle.packets.specs.Filling.{chunk_around}

-- the n bytes from `at` on
part_length : (b : List ℕ) (at n : ℕ) → at + n ≤ length b → length (take n (drop at b)) ≡ n
part_length b at n h = length-take-le n (drop at b) (let l = length-drop at b in omega arith)

pub wrote_same : (b : List ℕ) (at n : ℕ) → at + n ≤ length b → wrote b at (take n (drop at b)) ≡ b
unfolding wrote
wrote_same b at n h =
    ap (λ (m : ℕ). take at b ++ (take n (drop at b) ++ drop (at + m) b)) (part_length b at n h)
    ∙ ap (λ (l : List ℕ). take at b ++ (take n (drop at b) ++ l)) (sym (drop-drop n at b)) ∙ ap (λ (l : List ℕ). take at b ++ l) (take-append-drop n (drop at b)) ∙ take-append-drop at b

-- a front part, and behind it what was there
pub wrote_front : (b p : List ℕ) (at n : ℕ) → length p ≤ n → at + n ≤ length b → wrote b at (p ++ drop (length p) (take n (drop at b))) ≡ wrote b at p
unfolding wrote
wrote_front b p at n h k =
    let d : List ℕ = drop at b in
    let t : List ℕ = take n (drop at b) in
    let lt : length t ≡ n = part_length b at n k in
    let l : length (p ++ drop (length p) t) ≡ n = let a = length-append p (drop (length p) t) in let c = length-drop (length p) t in omega arith in
    let e : drop (length p) t ++ drop n d ≡ drop (at + length p) b =
    sym (drop-append-le (length p) t (drop n d) (omega (arith, lt, h))) ∙ ap (λ (x : List ℕ). drop (length p) x) (take-append-drop n d) ∙ drop-drop (length p) at b in
    ap (λ (m : ℕ). take at b ++ ((p ++ drop (length p) t) ++ drop (at + m) b)) l
    ∙ ap (λ (x : List ℕ). take at b ++ ((p ++ drop (length p) t) ++ x)) (sym (drop-drop n at b))
    ∙ ap (λ (x : List ℕ). take at b ++ x) (append_assoc p (drop (length p) t) (drop n d))
    ∙ ap (λ (x : List ℕ). take at b ++ (p ++ x)) e

-- one write before another is one write
pub wrote_before : (b : List ℕ) (at m : ℕ) (xs ys : List ℕ) → length xs ≡ m → at + m + length ys ≤ length b → wrote (wrote b (at + m) ys) at xs ≡ wrote b at (xs ++ ys)
unfolding wrote
wrote_before b at m xs ys e h =
    let front : List ℕ = take (at + m) b in
    let rest : List ℕ = ys ++ drop (at + m + length ys) b in
    let lf : length front ≡ at + m = length-take-le (at + m) b (omega (arith, h)) in
    let x : take at (front ++ rest) ≡ take at b = take-append-le at front rest (omega (arith, lf)) ∙ take-take at (at + m) b (omega arith) in
    let y : drop (at + length xs) (front ++ rest) ≡ rest = drop_at front rest (at + length xs) (lf ∙ ap (λ (n : ℕ). at + n) (sym e)) in
    let z : at + m + length ys ≡ at + length (xs ++ ys) = let l = length-append xs ys in omega arith in
    ap₂ (λ (p q : List ℕ). p ++ (xs ++ q)) x y ∙ ap (λ (n : ℕ). take at b ++ (xs ++ (ys ++ drop n b))) z ∙ ap (λ (l : List ℕ). take at b ++ l) (sym (append_assoc xs ys (drop (at + length (xs ++ ys)) b)))

-- A payload in its place, and the chunk's header and padding around it: the chunk.
pub chunk_whole : (k : ChunkKind) (tsn : ℕ) (d : Data) (b p : List ℕ) (at : ℕ) → d.length ≡ length p → at + padded (header_size k + length p) ≤ length b
    → chunk_around k tsn d (wrote b (at + header_size k) p) at ≡ wrote b at (chunk_bytes k tsn d p)
unfolding chunk_around model_chunk_bytes chunk_layout
chunk_whole k tsn d b p at e h =
    let n : ℕ = header_size k + length p in
    let xs : List ℕ = row_bytes (header_widths k) (header_row k (flags_of d) 0 tsn d n) in
    let zs : List ℕ = replicate (padding n) 0 in
    let lx : length xs ≡ header_size k = header_length k (flags_of d) 0 tsn d n in
    let lz : length zs ≡ padding n = length-replicate (padding n) 0 in
    let lp : length (xs ++ p) ≡ n = let a = length-append xs p in omega (arith, a, lx) in
    let one : wrote (wrote b (at + header_size k) p) at xs ≡ wrote b at (xs ++ p) = wrote_before b at (header_size k) xs p lx (omega (arith, h)) in
    let two : wrote (wrote b at (xs ++ p)) (at + n) zs ≡ wrote b at ((xs ++ p) ++ zs) =
    subst (λ (m : ℕ). wrote (wrote b at (xs ++ p)) (at + m) zs ≡ wrote b at ((xs ++ p) ++ zs)) lp (wrote_twice b at (xs ++ p) zs (omega (arith, lp, lz, h))) in
    ap (λ (m : ℕ). wrote (wrote (wrote b (at + header_size k) p) at (row_bytes (header_widths k) (header_row k (flags_of d) 0 tsn d (header_size k + m)))) (at + (header_size k + m)) (replicate (padding (header_size k + m)) 0)) e
    ∙ ap (λ (l : List ℕ). wrote l (at + n) zs) one ∙ two ∙ ap (wrote b at) (append_assoc xs p zs)
