-- The tokens of a text stand one after the other, and those that are names have letters.
use Rattle.std.proofs.Common.{◌≡◌, ℕ, zero, suc, ◌+◌, ◌-◌, ◌≤◌, Bool, true, false, cond, nat_eq, codes, bytes_eq, List, [], ◌∷◌, ◌++◌, take, drop, Option, Some, None, refl, ap, arith}
use Rattle.std.specs.Prelude.{⊤}
use Rattle.std.specs.List.{starts_with}
use Rattle.pdl_syntax_tokens.specs.declared.token.TokenKind.{TokenKind}
use Rattle.pdl_syntax_tokens.specs.declared.token.TokenKind.TheVariants as kind
use Rattle.pdl_syntax_tokens.specs.Tokens.{Token, Row, Piece, Spelling, tokens_from, placed_token, piece_at, word_at, number_or_literal, mark_or_bad, blank_of, is_blank, is_lower, is_digit, symbols, spelling_at, line_after}
use Rattle.pdl_syntax_tokens.proofs.OtherKinds.{same_kind, number_no_name, literal_no_name}

-- a token has letters if it is a name
abbrev pub HasLetters : Token → Type 0
HasLetters t = t.kind ≡ kind.Name → bytes_eq [] t.text ≡ false

-- tokens from byte n on, each after the beginning of the one before it
abbrev AreAfter : ℕ → Row → Type 0
AreAfter n [] = ⊤
AreAfter n (t ∷ ts) = (n ≤ t.span.start) × HasLetters t × AreAfter (suc t.span.start) ts

-- tokens stand from byte n on, each after the beginning of the one before it, and those that are names have letters
pub record Stand (n : ℕ) (ts : Row) : Type 0 where
  pub tokens : AreAfter n ts

none_stand : (n : ℕ) → Stand n []
none_stand n = record { tokens = tt }

also_stand : (n : ℕ) (t : Token) (ts : Row) → n ≤ t.span.start → HasLetters t → Stand (suc t.span.start) ts → Stand n (t ∷ ts)
also_stand n t ts le l h = record { tokens = (le, l, h.tokens) }

-- the first token begins at byte n or later
pub from : {n : ℕ} {t : Token} {ts : Row} → Stand n (t ∷ ts) → n ≤ t.span.start
from h = h.tokens.0

-- the first token has letters if it is a name
pub letters : {n : ℕ} {t : Token} {ts : Row} → Stand n (t ∷ ts) → HasLetters t
letters h = h.tokens.1

-- the tokens after the first one stand after its first byte
pub rest : {n : ℕ} {t : Token} {ts : Row} → Stand n (t ∷ ts) → Stand (suc t.span.start) ts
rest h = record { tokens = h.tokens.2 }

-- tokens that stand from byte n on stand from any byte before it on
pub sooner : {n : ℕ} {ts : Row} (m : ℕ) → m ≤ n → Stand n ts → Stand m ts
sooner {ts = []} m le h = none_stand m
sooner {ts = t ∷ ts} m le h = also_stand m t ts (let i = from h in omega arith) (letters h) (rest h)

-- the tokens after the first few
pub later : (k : ℕ) {n : ℕ} {ts : Row} → Stand n ts → Stand n (drop k ts)
later zero h = h
later (suc k) {n = n} {ts = []} h = none_stand n
later (suc k) {n = n} {ts = t ∷ ts} h = later k (sooner n (let i = from h in omega arith) (rest h))

-- ---- pieces

-- a piece that is a name has a byte
abbrev IsLong : Piece → Type 0
IsLong p = p.kind ≡ Some kind.Name → 1 ≤ p.size

one_of : (b : Bool) (p q : Piece) → (b ≡ true → IsLong p) → IsLong q → IsLong (cond b p q)
one_of true p q h k = h refl
one_of false p q h k = k

number_long : (n ds hs : List ℕ) → IsLong (number_or_literal n ds hs)
number_long n [] [] e = absurd (number_no_name _ _ (same_kind _ _ e))
number_long n [] (h ∷ hs) e = absurd (literal_no_name _ _ _ (same_kind _ _ e))
number_long n (d ∷ ds) hs e = absurd (literal_no_name _ _ _ (same_kind _ _ e))

blank_long : (n : ℕ) → IsLong (blank_of n)
blank_long n e = absurd (cc e)

mark_long : (s : Option Spelling) → IsLong (mark_or_bad s)
mark_long None e = absurd (cc e)
mark_long (Some s) e = absurd (cc e)

-- a word begins with a letter, which is one byte of it
word_long : (c : ℕ) (cs : List ℕ) → is_lower c ≡ true → 1 ≤ (word_at (c ∷ cs)).size
word_long c cs e = rw e (omega arith)

piece_long : (c : ℕ) (cs : List ℕ) → IsLong (piece_at c (c ∷ cs))
unfolding piece_at
piece_long c cs =
    one_of (is_blank c) _ _ (λ e. blank_long 1)
    (one_of (is_lower c) _ _ (λ e i. word_long c cs e)
    (one_of (is_digit c) _ _ (λ e. number_long _ _ _)
    (one_of (starts_with nat_eq (c ∷ cs) (codes "//")) _ _ (λ e. blank_long _)
    (mark_long (spelling_at symbols (c ∷ cs))))))

-- ---- tokens

lettered : (n c : ℕ) (cs : List ℕ) → 1 ≤ n → bytes_eq [] (take n (c ∷ cs)) ≡ false
lettered zero c cs h = absurd (omega (arith, h))
lettered (suc n) c cs h = refl

placed_stand : (k : Option TokenKind) (n start line c : ℕ) (cs : List ℕ) → IsLong (record { kind = k; size = n })
    → (rest : Row) → Stand (start + 1) rest
    → Stand start (placed_token (record { kind = k; size = n }) start line (c ∷ cs) ++ rest)
placed_stand None n start line c cs h rest t = sooner start (omega arith) t
placed_stand (Some k) n start line c cs h rest t =
    also_stand start _ rest (omega arith) (λ e. lettered n c cs (h (ap (λ (j : TokenKind). Some j) e))) (sooner (suc start) (omega arith) t)

-- the tokens of bytes that begin at `start` stand from there on
pub tokens_stand : (inside start line : ℕ) (bytes : List ℕ) → Stand start (tokens_from inside start line bytes)
tokens_stand inside start line [] = none_stand start
tokens_stand (suc k) start line (c ∷ cs) = sooner start (omega arith) (tokens_stand k (start + 1) line cs)
tokens_stand zero start line (c ∷ cs) =
    let p = piece_at c (c ∷ cs) in
    placed_stand p.kind p.size start line c cs (piece_long c cs) _ (tokens_stand (p.size - 1) (start + 1) (line_after c line) cs)
