-- What a cursor with limits sees at the front, by the tokens that it holds.
use Rattle.std.proofs.Common.{◌≡◌, ◌≤◌, Bool, true, false, cond, [], ◌∷◌, Some, None, refl, arith}
use Rattle.std.proofs.lemmas.Bool.Decides.{nat_tests}
use Rattle.pdl_syntax_tokens.specs.Cursor.{first, first_kind, first_span, next}
use Rattle.pdl_syntax_tokens.specs.Tokens.{Token}
use Rattle.pdl_syntax_cursor.specs.declared.limits.LimitCounts.{LimitCounts}
use Rattle.pdl_syntax_tokens.specs.Tokens.{Row}
use Rattle.pdl_syntax_cursor.specs.Limits.{is_within}
use Rattle.pdl_syntax_cursor.specs.MarkedTokens.{passed_if, seen_if, mark_token, marked_row, headed_row}
use Rattle.pdl_syntax_cursor.specs.Looks.{is_place, begins_place}

-- counts within the limits are at most 64 open brackets and at most 256 operators
pub within_parts : (c : LimitCounts) → is_within c ≡ true → (c.brackets ≤ 64) × (c.operators ≤ 256)
within_parts c e = grind (arith, nat_tests)

-- a token that isn't counted leaves the counts as they are
pub kept : (c : LimitCounts) → c ≡ cond (is_within c) c c
kept c = go (is_within c)
  where
    go : (b : Bool) → c ≡ cond b c c
    go true = refl
    go false = refl

-- tokens are seen the same, whether the first of them is counted yet or not
pub head_is : (c : LimitCounts) (ts : Row) → headed_row (passed_if c (first_kind ts)) ts ≡ marked_row c ts
head_is c [] = refl
head_is c (t ∷ ts) = refl

-- past the first token, with the next one counted, those after it are seen as before
pub next_head : (c : LimitCounts) (ts : Row) → headed_row (passed_if c (first_kind (next ts))) (next ts) ≡ next (headed_row c ts)
next_head c [] = refl
next_head c (t ∷ ts) = head_is c ts

-- what the first token is, by the counts after it, is what is seen first
pub kind_head : (c : LimitCounts) (ts : Row) → seen_if c (first_kind ts) ≡ first_kind (headed_row c ts)
kind_head c [] = refl
kind_head c (t ∷ ts) = refl

-- the first token is seen at its own place, whatever the counts
pub span_head : (c : LimitCounts) (ts : Row) → first_span ts ≡ first_span (headed_row c ts)
span_head c [] = refl
span_head c (t ∷ ts) = refl

-- what the tokens begin with, where there are some
pub some_head : (c : LimitCounts) (ts : Row) (t : Token) → Some t ≡ first ts → headed_row c ts ≡ mark_token c t ∷ marked_row c (next ts)
some_head c [] t e = cc
some_head c (u ∷ ts) t e = let k : t ≡ u = cc in rw k refl

-- where there is no token, the row is empty
pub none_head : (c : LimitCounts) (ts : Row) → None ≡ first ts → headed_row c ts ≡ []
none_head c [] e = refl
none_head c (u ∷ ts) e = cc

-- the next two tokens
pub place_head : (c : LimitCounts) (ts : Row)
    → begins_place (headed_row c ts) ≡ is_place (first_kind (headed_row c ts)) (seen_if (passed_if c (first_kind (next ts))) (first_kind (next ts)))
    (seen_if (passed_if (passed_if c (first_kind (next ts))) (first_kind (next (next ts)))) (first_kind (next (next ts))))
place_head c [] = refl
place_head c (t ∷ []) = refl
place_head c (t ∷ u ∷ []) = refl
place_head c (t ∷ u ∷ v ∷ ts) = refl
