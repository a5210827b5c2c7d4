-- The tokens of a text, a piece at a time.
use Rattle.std.proofs.Common.{◌≡◌, ℕ, zero, suc, ◌+◌, ◌-◌, ◌≤◌, Bool, true, false, ◌&&◌, nat_eq, nat_le, cond, List, [], ◌∷◌, ◌++◌, take, drop, take_while, length, codes, Some, None, refl, sym, ap, ◌∙◌, subst, arith, length-drop, add-zero}
use Rattle.std.specs.List.{prefix_len, starts_with}
use Rattle.std.specs.Cmp.Lexicographic.{pointwise}
use Rattle.std.proofs.Math.Seq.{drop-nil}
use Rattle.std.proofs.lemmas.List.Sums.{prefix_len-le-length}
use Rattle.std.proofs.lemmas.List.Folds.{length-prefix_len}
use Rattle.std.proofs.lemmas.Bool.Decides.{nat_tests}
use Rattle.std.proofs.lemmas.Bool.{and_parts, or_left, cond_both}
use Rattle.pdl_syntax_tokens.specs.declared.piece.Piece as r
use Rattle.pdl_syntax_tokens.specs.declared.token.TokenKind.{TokenKind}
use Rattle.pdl_syntax_tokens.specs.Tokens.{Piece, Spelling, symbols, spelling_at, is_blank, is_lower, is_digit, is_hex, is_word, in_line, blank_of, word_at, number_at, number_or_literal, digits_after, mark_or_bad, piece_at, placed_token, line_after, tokens_from}
use Rattle.pdl_syntax_tokens.specs.Pieces.{piece_view, IsFront, IsLineAfter}
use Rattle.pdl_word.proofs.Lists.{run_least, prefix_fits}

-- a piece has at least 1 byte and at most n
pub record Sized (p : Piece) (n : ℕ) : Type 0 where
  pub least : 1 ≤ p.size
  pub most : p.size ≤ n

-- digits with a base of two bytes before them fit, if there are any
AreWithin : List ℕ → ℕ → Type 0
AreWithin [] m = Unit {0}
AreWithin (d ∷ ds) m = 2 + length (d ∷ ds) ≤ m

few_within : (ds : List ℕ) (m : ℕ) → 2 + length ds ≤ m → AreWithin ds m
unfolding AreWithin
few_within [] m h = tt
few_within (d ∷ ds) m h = h

cond_within : (b : Bool) (ds : List ℕ) (m : ℕ) → (b ≡ true → 2 + length ds ≤ m) → AreWithin (cond b ds []) m
unfolding AreWithin
cond_within true ds m f = few_within ds m (f refl)
cond_within false ds m f = tt

after_within : (base : List ℕ) (is : ℕ → Bool) (bytes : List ℕ) → length base ≡ 2 → AreWithin (digits_after base is bytes) (length bytes)
after_within base is bytes two = cond_within (starts_with nat_eq bytes base) (take_while is (drop (length base) bytes)) (length bytes)
    (λ e. let k = prefix_fits bytes base e in
    let after = drop (length base) bytes in
    let i : length (take_while is after) ≡ prefix_len is after = length-prefix_len is after in
    let j = prefix_len-le-length is after in
    omega (arith, k, i, j, two, length-drop (length base) bytes))

number_or_literal_sized : (number d h : List ℕ) (n m : ℕ)
    → 1 ≤ length number → length number + m ≤ n → AreWithin d m → AreWithin h m → Sized (number_or_literal number d h) n
unfolding AreWithin
number_or_literal_sized number [] [] n m least most wd wh = record { least = least; most = omega arith }
number_or_literal_sized number [] (h ∷ hs) n m least most wd wh = record { least = omega arith; most = omega arith }
number_or_literal_sized number (d ∷ ds) h n m least most wd wh = record { least = omega arith; most = omega arith }

number_sized : (c : ℕ) (cs : List ℕ) → is_digit c ≡ true → Sized (number_at (c ∷ cs)) (length (c ∷ cs))
number_sized c cs e =
    let bytes = c ∷ cs in
    let n = prefix_len is_digit bytes in
    let after = drop n bytes in
    let i : length (take_while is_digit bytes) ≡ n = length-prefix_len is_digit bytes in
    number_or_literal_sized (take_while is_digit bytes) (digits_after (codes "'d") is_digit after)
    (digits_after (codes "'h") is_hex after) (length bytes) (length after)
    (let k = run_least is_digit c cs e in omega (arith, i, k))
    (let k = prefix_len-le-length is_digit bytes in omega (arith, i, k, length-drop n bytes))
    (after_within (codes "'d") is_digit after refl)
    (after_within (codes "'h") is_hex after refl)

-- none of the spellings is empty
are_written : List Spelling → Bool
are_written [] = true
are_written (s ∷ rest) = nat_le 1 (length s.text) && are_written rest

spelling_sized : (all : List Spelling) (bytes : List ℕ)
    → are_written all ≡ true → 1 ≤ length bytes → Sized (mark_or_bad (spelling_at all bytes)) (length bytes)
unfolding are_written
spelling_sized [] bytes e h = record { least = omega arith; most = h }
spelling_sized (s ∷ rest) bytes e h =
    go (starts_with nat_eq bytes s.text) refl (spelling_sized rest bytes (and_parts (nat_le 1 (length s.text)) (are_written rest) e).1 h)
  where
    go : (b : Bool) → starts_with nat_eq bytes s.text ≡ b → Sized (mark_or_bad (spelling_at rest bytes)) (length bytes) →
        Sized (mark_or_bad (cond b (Some s) (spelling_at rest bytes))) (length bytes)
    go true is others =
        record {
          least = let k = (and_parts (nat_le 1 (length s.text)) (are_written rest) e).0 in
              grind (arith, nat_tests, k);
          most = prefix_fits bytes s.text is;
        }
    go false is others = others

symbols_written : are_written symbols ≡ true
unfolding are_written
symbols_written = refl

-- what starts with a text has its first byte
first_same : (a c : ℕ) (text cs : List ℕ) → starts_with nat_eq (c ∷ cs) (a ∷ text) ≡ true → a ≡ c
first_same a c text cs e =
    let k : nat_eq a c ≡ true = (and_parts (nat_eq a c) (pointwise nat_eq text (take (length text) cs)) e).0 in grind (arith, nat_tests, k)

-- the piece at the front of bytes has at least 1 of them and at most all
pub piece_sized : (c : ℕ) (cs : List ℕ) → Sized (piece_at c (c ∷ cs)) (length (c ∷ cs))
unfolding piece_at
piece_sized c cs =
    let bytes = c ∷ cs in
    let n = length bytes in
    let mark : Piece = mark_or_bad (spelling_at symbols bytes) in
    let comment : Piece = cond (starts_with nat_eq bytes (codes "//")) (blank_of (prefix_len in_line bytes)) mark in
    let number : Piece = cond (is_digit c) (number_at bytes) comment in
    let word : Piece = cond (is_lower c) (word_at bytes) number in
    cond_both (is_blank c) (blank_of 1) word (λ p. Sized p n) (λ _. record { least = omega arith; most = omega arith })
    (λ _. cond_both (is_lower c) (word_at bytes) number (λ p. Sized p n)
    (λ e. record { least = run_least is_word c cs (or_left (is_lower c) _ e); most = prefix_len-le-length is_word bytes })
    (λ _. cond_both (is_digit c) (number_at bytes) comment (λ p. Sized p n) (λ e. number_sized c cs e)
    (λ _. cond_both (starts_with nat_eq bytes (codes "//")) (blank_of (prefix_len in_line bytes)) mark (λ p. Sized p n)
    (λ e. record {
      least = run_least in_line c cs (subst (λ b. in_line b ≡ true) (first_same 47 c (47 ∷ []) cs e) refl);
      most = prefix_len-le-length in_line bytes;
    })
    (λ _. spelling_sized symbols bytes symbols_written (omega arith)))))

-- the size of the piece at the front
pub piece_fits : (bytes : List ℕ) (p : r.Piece) → IsFront bytes (Some p) → (1 ≤ p.size) × (p.size ≤ length bytes)
piece_fits [] p h = absurd h
piece_fits (c ∷ cs) p h = let k = piece_sized c cs in
    let e : p.size ≡ (piece_at c (c ∷ cs)).size = ap (λ x. x.size) h in (rw e k.least, rw e k.most)

-- bytes inside a piece give no token
inside : (k start line : ℕ) (bytes : List ℕ) → tokens_from k start line bytes ≡ tokens_from 0 (start + k) line (drop k bytes)
inside k start line [] = rw (drop-nil k) refl
inside zero start line (c ∷ cs) = rw (add-zero start) refl
inside (suc k) start line (c ∷ cs) = inside k (start + 1) line cs ∙ ap (λ s. tokens_from 0 s line (drop k cs)) (omega arith)

after_piece : (n c start line : ℕ) (cs : List ℕ)
    → 1 ≤ n → tokens_from (n - 1) (start + 1) line cs ≡ tokens_from 0 (start + n) line (drop n (c ∷ cs))
after_piece zero c start line cs h = absurd (omega arith)
after_piece (suc k) c start line cs h = let e : suc k - 1 ≡ k = omega arith in
    rw e (inside k (start + 1) line cs ∙ ap (λ s. tokens_from 0 s line (drop k cs)) (omega arith))

-- the tokens are that of the piece at the front, and those after it
one_piece : (c : ℕ) (cs : List ℕ) (start line : ℕ) → let p = piece_at c (c ∷ cs) in
    tokens_from 0 start line (c ∷ cs) ≡ placed_token p start line (c ∷ cs) ++ tokens_from 0 (start + p.size) (line_after c line) (drop p.size (c ∷ cs))
one_piece c cs start line = let p = piece_at c (c ∷ cs) in
    ap (λ ts. placed_token p start line (c ∷ cs) ++ ts) (after_piece p.size c start (line_after c line) cs (piece_sized c cs).least)

-- the place after the piece at the front
step_is : (bytes rest : List ℕ) (p : r.Piece) (start line start2 line2 : ℕ) → IsFront bytes (Some p) → rest ≡ drop p.size bytes → start2 ≡ start + p.size →
    IsLineAfter bytes line line2 → tokens_from 0 start line bytes ≡ placed_token (piece_view p) start line bytes ++ tokens_from 0 start2 line2 rest
step_is [] rest p start line start2 line2 h er es el = absurd h
step_is (c ∷ cs) rest p start line start2 line2 h er es el =
    let P : Piece → Type 0 =
    λ q. tokens_from 0 start line (c ∷ cs)
    ≡ placed_token q start line (c ∷ cs) ++ tokens_from 0 (start + q.size) (line_after c line) (drop q.size (c ∷ cs)) in
    rw (er, es, el) (subst P (sym h) (one_piece c cs start line))

-- where a piece at the front is blank, the tokens are those after it
pub step_blank : (bytes rest : List ℕ) (p : r.Piece) (start line start2 line2 : ℕ) → IsFront bytes (Some p)
    → rest ≡ drop p.size bytes → start2 ≡ start + p.size →
    IsLineAfter bytes line line2 → p.kind ≡ None → tokens_from 0 start2 line2 rest ≡ tokens_from 0 start line bytes
step_blank bytes rest p start line start2 line2 h er es el e =
    let k = step_is bytes rest p start line start2 line2 h er es el in sym (k ∙ rw e refl)

-- where a piece at the front is a token, the tokens are that one and those after it
pub step_token : (bytes rest : List ℕ) (p : r.Piece) (k : TokenKind) (start line start2 line2 : ℕ)
    → IsFront bytes (Some p) → rest ≡ drop p.size bytes → start2 ≡ start + p.size →
    IsLineAfter bytes line line2 → p.kind ≡ Some k →
    record { kind = k; text = take p.size bytes; span = record { start = start; end = start2; line = line } } ∷ tokens_from 0 start2 line2 rest
    ≡ tokens_from 0 start line bytes
step_token bytes rest p k start line start2 line2 h er es el e =
    let j = step_is bytes rest p start line start2 line2 h er es el in sym (j ∙ rw (e, es) refl)
