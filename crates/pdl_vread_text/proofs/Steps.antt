-- The tokens of a text, a piece at a time.
use Rattle.std.proofs.Common.{◌≡◌, ℕ, zero, suc, ◌+◌, ◌-◌, ◌≤◌, Bool, true, false, ◌&&◌, nat_eq, ◌||◌, cond, List, [], ◌∷◌, ◌++◌, take, drop, length, codes, Some, refl, sym, ap, ◌∙◌, subst, arith}
use Rattle.std.specs.List.{starts_with}
use Rattle.std.specs.Cmp.Lexicographic.{pointwise}
use Rattle.std.proofs.Math.Seq.{drop-nil}
use Rattle.std.proofs.lemmas.List.Sums.{prefix_len-le-length}
use Rattle.std.proofs.lemmas.Bool.Decides.{nat_tests}
use Rattle.std.proofs.lemmas.Bool.{and_parts}
use Rattle.pdl_vread_text.specs.declared.piece.VerilogPiece as r
use Rattle.pdl_vread_text.specs.Tokens.{Piece, is_blank, is_word, in_line, begins_pair, piece_at, placed, line_after, tokens_from}
use Rattle.pdl_vread_text.specs.Pieces.{piece_view, IsFront, IsLineAfter}
use Rattle.pdl_word.proofs.Lists.{run_least, prefix_fits}

-- a piece has at least 1 byte and at most n
pub record Sized (p : Piece) (n : ℕ) : Type 0 where
  pub least : 1 ≤ p.size
  pub most : p.size ≤ n

cond_sized : (b : Bool) (p q : Piece) (n : ℕ) → (b ≡ true → Sized p n) → (b ≡ false → Sized q n) → Sized (cond b p q) n
cond_sized true p q n f g = f refl
cond_sized false p q n f g = g refl

either_fits : (a b : Bool) (n m : ℕ) → (a ≡ true → n ≤ m) → (b ≡ true → n ≤ m) → a || b ≡ true → n ≤ m
either_fits true b n m f g e = f refl
either_fits false b n m f g e = g e

pair_fits : (bytes : List ℕ) → begins_pair bytes ≡ true → 2 ≤ length bytes
pair_fits bytes e =
    let f : (s : List ℕ) → length s ≡ 2 → starts_with nat_eq bytes s ≡ true → 2 ≤ length bytes = λ s l h. let k = prefix_fits bytes s h in
    omega (arith, k, l) in
    either_fits _ _ 2 (length bytes) (f (codes "==") refl) (either_fits _ _ 2 (length bytes) (f (codes "!=") refl)
    (either_fits _ _ 2 (length bytes) (f (codes "<=") refl) (either_fits _ _ 2 (length bytes) (f (codes "<<") refl) (f (codes ">>") refl)))) e

comment_is : (c : ℕ) (cs : List ℕ) → starts_with nat_eq (c ∷ cs) (codes "//") ≡ true → in_line c ≡ true
comment_is c cs e = let k : nat_eq 47 c ≡ true = (and_parts (nat_eq 47 c) (pointwise nat_eq (47 ∷ []) (take 1 cs)) e).0 in
    let i : 47 ≡ c = grind (arith, nat_tests, k) in subst (λ x. in_line x ≡ true) i refl

-- the piece at the front of bytes has at least 1 of them and at most all
pub piece_sized : (c : ℕ) (cs : List ℕ) → Sized (piece_at c (c ∷ cs)) (length (c ∷ cs))
unfolding piece_at
piece_sized c cs =
    let n = length (c ∷ cs) in
    cond_sized (is_blank c) _ _ n (λ _. record { least = omega arith; most = omega arith })
    (λ _. cond_sized (is_word c) _ _ n (λ e. record { least = run_least is_word c cs e; most = prefix_len-le-length is_word (c ∷ cs) })
    (λ _. cond_sized (starts_with nat_eq (c ∷ cs) (codes "//")) _ _ n
    (λ e. record { least = run_least in_line c cs (comment_is c cs e); most = prefix_len-le-length in_line (c ∷ cs) })
    (λ _. cond_sized (begins_pair (c ∷ cs)) _ _ n (λ e. record { least = omega arith; most = pair_fits (c ∷ cs) e })
    (λ _. record { least = omega arith; most = omega arith }))))

-- the size of the piece at the front
pub piece_fits : (bytes : List ℕ) (p : r.VerilogPiece) → IsFront bytes (Some p) → (1 ≤ p.size) × (p.size ≤ length bytes)
piece_fits [] p h = absurd h
piece_fits (c ∷ cs) p h = let k = piece_sized c cs in
    let e : p.size ≡ (piece_at c (c ∷ cs)).size = ap (λ x. x.size) h in (rw e k.least, rw e k.most)

-- bytes inside a piece give no token
inside : (k line : ℕ) (bytes : List ℕ) → tokens_from k line bytes ≡ tokens_from 0 line (drop k bytes)
inside k line [] = rw (drop-nil k) refl
inside zero line (c ∷ cs) = refl
inside (suc k) line (c ∷ cs) = inside k line cs

after_piece : (n c line : ℕ) (cs : List ℕ) → 1 ≤ n → tokens_from (n - 1) line cs ≡ tokens_from 0 line (drop n (c ∷ cs))
after_piece zero c line cs h = absurd (omega arith)
after_piece (suc k) c line cs h = let e : suc k - 1 ≡ k = omega arith in rw e (inside k line cs)

-- the tokens are that of the piece at the front, and those after it
one_piece : (c : ℕ) (cs : List ℕ) (line : ℕ) → let p = piece_at c (c ∷ cs) in
    tokens_from 0 line (c ∷ cs) ≡ placed p line (c ∷ cs) ++ tokens_from 0 (line_after c line) (drop p.size (c ∷ cs))
one_piece c cs line = let p = piece_at c (c ∷ cs) in
    ap (λ ts. placed p line (c ∷ cs) ++ ts) (after_piece p.size c (line_after c line) cs (piece_sized c cs).least)

-- the place after the piece at the front
step_is : (bytes rest : List ℕ) (p : r.VerilogPiece) (line line2 : ℕ) → IsFront bytes (Some p) → rest ≡ drop p.size bytes →
    IsLineAfter bytes line line2 → tokens_from 0 line bytes ≡ placed (piece_view p) line bytes ++ tokens_from 0 line2 rest
step_is [] rest p line line2 h er el = absurd h
step_is (c ∷ cs) rest p line line2 h er el =
    let P : Piece → Type 0 = λ q. tokens_from 0 line (c ∷ cs) ≡ placed q line (c ∷ cs) ++ tokens_from 0 (line_after c line) (drop q.size (c ∷ cs)) in
    rw (er, el) (subst P (sym h) (one_piece c cs line))

-- white space or a comment at the front gives no token
pub step_blank : (bytes rest : List ℕ) (p : r.VerilogPiece) (line line2 : ℕ) → IsFront bytes (Some p) → rest ≡ drop p.size bytes →
    IsLineAfter bytes line line2 → p.is_token ≡ false → tokens_from 0 line2 rest ≡ tokens_from 0 line bytes
step_blank bytes rest p line line2 h er el e =
    let k = step_is bytes rest p line line2 h er el in sym (k ∙ rw e refl)

-- a token at the front is the first of the tokens, on the line where it stands
pub step_token : (bytes rest : List ℕ) (p : r.VerilogPiece) (line line2 : ℕ) → IsFront bytes (Some p) → rest ≡ drop p.size bytes →
    IsLineAfter bytes line line2 → p.is_token ≡ true →
    record { text = take p.size bytes; line = line } ∷ tokens_from 0 line2 rest ≡ tokens_from 0 line bytes
step_token bytes rest p line line2 h er el e =
    let j = step_is bytes rest p line line2 h er el in sym (j ∙ rw e refl)
