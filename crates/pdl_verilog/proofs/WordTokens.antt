-- The tokens of words and symbols that stand before others.
use Rattle.std.proofs.Common.{◌≡◌, ℕ, ◌+◌, ◌≤◌, true, false, cond, ◌||◌, eqb, List, [], ◌∷◌, ◌++◌, length, take, drop, codes, refl, sym, ap, ◌∙◌, arith}
use Rattle.std.specs.List.{list_all, prefix_len}
use Rattle.std.proofs.lemmas.Bool.{and_parts, or_parts, or_from, ne_eqb, true≢false, cond-true, cond-false}
use Rattle.pdl_vread_text.specs.declared.piece.VerilogPiece as r
use Rattle.pdl_vread_text.specs.Tokens.{Token, Piece, is_word, is_blank, piece_at, line_after, tokens_from}
use Rattle.pdl_vread_text.specs.Pieces.{piece_view}
use Rattle.pdl_vread_text.proofs.Steps.{step_token}
use Rattle.pdl_verilog.proofs.Numbers.{run_before, drop_front}
use Rattle.std.proofs.Math.Seq.{take-append_seam}

-- a byte of a word is no white space
word_not_blank : (c : ℕ) → is_word c ≡ true → is_blank c ≡ false
word_not_blank c h = or_from _ _ (or_from _ _ (or_from _ _ (other 32 refl) (other 9 refl)) (other 13 refl)) (other 10 refl)
  where
    other : (n : ℕ) → is_word n ≡ false → eqb c n ≡ false
    other n e = ne_eqb c n (λ s. true≢false (sym h ∙ (ap is_word s ∙ e)))

-- the bytes of one word
pub record IsWordText (w : List ℕ) : Type 0 where
  pub some : 1 ≤ length w
  pub all : list_all is_word w ≡ true

-- a token with its bytes and its line
abbrev pub token : List ℕ → ℕ → Token
token text line = record { text = text; line = line }

word_piece : (c : ℕ) (w rest : List ℕ)
    → list_all is_word (c ∷ w) ≡ true → prefix_len is_word rest ≡ 0
    → piece_view (record { is_token = true; size = length (c ∷ w) }) ≡ piece_at c ((c ∷ w) ++ rest)
unfolding piece_at
word_piece c w rest h e =
    let n : prefix_len is_word ((c ∷ w) ++ rest) ≡ length (c ∷ w) = run_before is_word (c ∷ w) rest h e in
    let p = and_parts (is_word c) (list_all is_word w) h in
    let b = word_not_blank c p.0 in
    let P : ℕ → Piece = λ n. record { is_token = true; size = n } in
    sym (cond-false _ _ _ b ∙ (cond-true _ _ _ p.0 ∙ ap P n))

-- a word before a byte that is none of a word
pub word_token : (w rest : List ℕ) (line : ℕ) → IsWordText w
    → prefix_len is_word rest ≡ 0 → tokens_from 0 line (w ++ rest) ≡ token w line ∷ tokens_from 0 line rest
word_token [] rest line h e = let l : 1 ≤ 0 = h.some in absurd (omega arith)
word_token (c ∷ w) rest line h e =
    let p : r.VerilogPiece = record { is_token = true; size = length (c ∷ w) } in
    let k = and_parts (is_word c) (list_all is_word w) h.all in
    let same : drop (length (c ∷ w)) ((c ∷ w) ++ rest) ≡ rest = drop_front (c ∷ w) rest in
    let text : take (length (c ∷ w)) ((c ∷ w) ++ rest) ≡ c ∷ w = take-append_seam (c ∷ w) rest in
    let end : eqb c 10 ≡ false = (or_parts (eqb c 32 || eqb c 9 || eqb c 13) (eqb c 10) (word_not_blank c k.0)).1 in
    let after : line ≡ line_after c line = sym (ap (λ b. cond b (line + 1) line) end) in
    sym (step_token ((c ∷ w) ++ rest) rest p line line (word_piece c w rest h.all e) (sym same) after refl)
    ∙ ap (λ t. token t line ∷ tokens_from 0 line rest) text

-- ---- as they stand in a line

-- a space at the front gives no token
pub space_first : (x : List ℕ) (line : ℕ) → tokens_from 0 line (codes " " ++ x) ≡ tokens_from 0 line x
unfolding piece_at
space_first x line = refl

-- a semicolon that ends a line gives its token, and what follows stands on the next line
pub line_end : (x : List ℕ) (line : ℕ) → tokens_from 0 line (codes ";\n" ++ x) ≡ token (codes ";") line ∷ tokens_from 0 (line + 1) x
unfolding piece_at
line_end x line = refl
