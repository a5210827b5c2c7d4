-- The laws of the reader with the limits.
use Rattle.std.proofs.Common.{◌≡◌, ℕ, suc, ◌<◌, Bool, true, false, [], ◌∷◌, ◌++◌, length, Option, Some, None, Ok, Err, refl, ap, sym, subst, ◌∙◌, append-nil}
use Rattle.pdl_semantics.specs.Tree.{Pipe}
use Rattle.pdl_syntax_tokens.specs.declared.token.TokenKind.TheVariants as kind
use Rattle.pdl_syntax_tokens.specs.Tokens.{Token}
use Rattle.pdl_syntax_cursor.specs.declared.limits.LimitCounts.{LimitCounts}
use Rattle.pdl_syntax_tokens.specs.Tokens.{Row}
use Rattle.pdl_syntax_grammar.specs.Grammar.{Text}
use Rattle.pdl_syntax_cursor.specs.Limits.{counts_after, is_within, AreWithin, at_start}
use Rattle.pdl_syntax_cursor.specs.MarkedTokens.{counts_passing, mark_token, marked_row}
use Rattle.pdl_syntax_grammar.specs.Reading.{parse}
use Rattle.pdl_syntax_grammar.specs.Text.{Spells, Begins, line_of}
use Rattle.pdl_syntax_grammar.specs.Automaton.{Closer, semicolon, round, comma, colon, in_args, Sym, a, a_name, a_number, a_literal, an_access, a_pace, a_lock_kind, operand, slicing, rest, more, locked, items, else_items, after_name, assigned, assigned_name, in_square, Stack, act, act_close, run_after, run, whole}
use Rattle.pdl_syntax_grammar.proofs.ReaderLaws.{found, refused, taken, IsRefusedAt}

-- ---- a bad token is never taken

close_bad : (q : Closer) → act_close q kind.Bad ≡ None
close_bad semicolon = refl
close_bad round = refl
close_bad comma = refl
close_bad colon = refl
close_bad in_args = refl

act_bad : (s : Sym) → act s kind.Bad ≡ None
act_bad (a m) = refl
act_bad a_name = refl
act_bad a_number = refl
act_bad a_literal = refl
act_bad an_access = refl
act_bad a_pace = refl
act_bad a_lock_kind = refl
act_bad (operand q) = refl
act_bad (slicing q) = close_bad q
act_bad (rest q) = close_bad q
act_bad (more l) = refl
act_bad locked = refl
act_bad items = refl
act_bad else_items = refl
act_bad after_name = refl
act_bad assigned = refl
act_bad assigned_name = refl
act_bad in_square = refl

-- ---- what the marking says of a front

over_kind : (d : LimitCounts) (t : Token) → is_within d ≡ false → (mark_token d t).kind ≡ kind.Bad
over_kind d t e = rw e refl

same_token : (d : LimitCounts) (t : Token) → is_within d ≡ true → mark_token d t ≡ t
same_token d t e = rw e refl

-- a front that some text begins with is as it was, and within the limits
record IsSplit (c : LimitCounts) (ts front left : Row) : Type 0 where
  after : Row
  d : LimitCounts
  split : ts ≡ front ++ after
  rest : left ≡ marked_row d after
  within : AreWithin c front
  fine : is_within d ≡ true
  next : (t : Token) → AreWithin c (front ++ t ∷ []) → is_within (counts_after d t.kind) ≡ true

one_further : (c : LimitCounts) (t u : Token) (ts front left : Row)
    → is_within (counts_after c t.kind) ≡ true → t ≡ u → IsSplit (counts_after c t.kind) ts front left
    → IsSplit c (t ∷ ts) (u ∷ front) left
one_further c t u ts front left e is h = subst (λ x. IsSplit c (t ∷ ts) (x ∷ front) left) is (record {
  after = h.after;
  d = h.d;
  split = ap (λ x. t ∷ x) h.split;
  rest = h.rest;
  within = (e, h.within);
  fine = h.fine;
  next = λ v w. h.next v w.1;
})

split_marked : (front : Row) (c : LimitCounts) (ts left others : Row) (below : Stack)
    → is_within c ≡ true → marked_row c ts ≡ front ++ left → run (front ++ others) below ≡ None
    → IsSplit c ts front left
split_marked [] c ts left others below w e r = record { after = ts; d = c; split = refl; rest = sym e; within = tt; fine = w; next = λ t h. h.0 }
split_marked (u ∷ front) c [] left others below w e r = cc
split_marked (u ∷ front) c (t ∷ ts) left others [] w e r = cc
split_marked (u ∷ front) c (t ∷ ts) left others (s ∷ below) w e r =
    go (is_within (counts_after c t.kind)) refl (act s u.kind) refl r (λ above. split_marked front (counts_after c t.kind) ts left others (above ++ below))
  where
    is : mark_token (counts_after c t.kind) t ∷ marked_row (counts_after c t.kind) ts ≡ u ∷ (front ++ left)
    is = let k : counts_passing c t.kind ≡ counts_after c t.kind = rw w refl in subst (λ x. mark_token x t ∷ marked_row x ts ≡ u ∷ (front ++ left)) k e

    head : mark_token (counts_after c t.kind) t ≡ u
    head = let k = is in cc

    tail : marked_row (counts_after c t.kind) ts ≡ front ++ left
    tail = let k = is in cc

    go : (b : Bool) → is_within (counts_after c t.kind) ≡ b → (o : Option Stack) → act s u.kind ≡ o
        → run_after o below (run (front ++ others)) (u ∷ (front ++ others)) ≡ None →
        ((above : Stack) → is_within (counts_after c t.kind) ≡ true
        → marked_row (counts_after c t.kind) ts ≡ front ++ left → run (front ++ others) (above ++ below) ≡ None
        → IsSplit (counts_after c t.kind) ts front left)
        → IsSplit c (t ∷ ts) (u ∷ front) left
    go false f None i r ih = cc
    go false f (Some above) i r ih = let k : u.kind ≡ kind.Bad = sym (ap (λ x. x.kind) head) ∙ over_kind (counts_after c t.kind) t f in
        let j : Some above ≡ None = sym i ∙ (ap (act s) k ∙ act_bad s) in cc
    go true f None i r ih = cc
    go true f (Some above) i r ih = one_further c t u ts front left f (sym (same_token (counts_after c t.kind) t f) ∙ head) (ih above f tail r)

-- tokens within the limits are as they were
pub unmarked : (c : LimitCounts) (ts : Row) → is_within c ≡ true → AreWithin c ts → marked_row c ts ≡ ts
unmarked c [] w h = refl
unmarked c (t ∷ ts) w h = let k : counts_passing c t.kind ≡ counts_after c t.kind = rw w refl in
    rw k
    (ap (λ x. x ∷ marked_row (counts_after c t.kind) ts) (same_token (counts_after c t.kind) t h.0)
    ∙ ap (λ x. t ∷ x) (unmarked (counts_after c t.kind) ts h.0 h.1))

marked_length : (c : LimitCounts) (ts : Row) → length (marked_row c ts) ≡ length ts
marked_length c [] = refl
marked_length c (t ∷ ts) = ap suc (marked_length (counts_passing c t.kind) ts)

same_line : (d : LimitCounts) (after : Row) (last : ℕ) → line_of (marked_row d after) last ≡ line_of after last
same_line d [] last = refl
same_line d (t ∷ ts) last = refl

none_after : (d : LimitCounts) (after : Row) → ◌≡◌ {A = Row} [] (marked_row d after) → after ≡ []
none_after d [] e = refl
none_after d (t ∷ ts) e = cc

-- ---- the reader

-- refused with these tokens left: those before are in place, and with the next one they aren't; or none is left, and they are no text
pub record IsOut (ts left : Row) : Type 0 where
  pub front : Row
  pub after : Row
  pub split : ts ≡ front ++ after
  pub line : (last : ℕ) → line_of left last ≡ line_of after last
  pub begins : Begins front
  pub bad : (t : Token) (more : Row) → after ≡ t ∷ more → Begins (front ++ t ∷ []) → ⊥
  pub no_text : (p : Pipe) → Spells p ts → ⊥

-- tokens that are a text of a pipe as they are seen with the limits are a spelling of it within the limits
pub spelt : (ts : Row) (p : Pipe) → Text p (marked_row at_start ts) [] → Spells p ts
spelt ts p t =
    let k : marked_row at_start ts ≡ marked_row at_start ts ++ [] = sym (append-nil _) in
    let s = split_marked (marked_row at_start ts) at_start ts [] [] whole refl k (subst (λ x. run x whole ≡ None) k (taken (marked_row at_start ts) p t)) in
    let same : ts ≡ marked_row at_start ts = s.split ∙ (ap (λ b. marked_row at_start ts ++ b) (none_after s.d s.after s.rest) ∙ append-nil _) in
    record { text = subst (λ x. Text p x []) (sym same) t; within = subst (AreWithin at_start) (sym same) s.within }

-- tokens that are refused as they are seen with the limits are refused with the limits
pub out : (ts left : Row) → IsRefusedAt (marked_row at_start ts) left → IsOut ts left
out ts left h =
    let s = split_marked h.front at_start ts left h.begins.0 whole refl h.split (taken (h.front ++ h.begins.0) h.begins.1 h.begins.2) in
    record {
      front = h.front;
      after = s.after;
      split = s.split;
      line = λ last. ap (λ x. line_of x last) s.rest ∙ same_line s.d s.after last;
      begins = record { more = h.begins.0; pipe = h.begins.1; text = h.begins.2; within = s.within };
      bad =
          λ t ts same b. h.bad t (marked_row (counts_after s.d t.kind) ts)
          (next_is s.d s.after left t ts s.fine s.rest same (s.next t b.within)) (b.more, b.pipe, b.text);
      no_text = λ p b. h.no_text p (subst (λ x. Text p x []) (sym (unmarked at_start ts refl b.within)) b.text);
    }
  where
    next_is : (d : LimitCounts) (after left : Row) (t : Token) (us : Row) → is_within d ≡ true
        → left ≡ marked_row d after → after ≡ t ∷ us → is_within (counts_after d t.kind) ≡ true
        → left ≡ t ∷ marked_row (counts_after d t.kind) us
    next_is d after left t us w e same f =
        e ∙ (ap (marked_row d) same ∙ rw w (ap (λ x. x ∷ marked_row (counts_after d t.kind) us) (same_token (counts_after d t.kind) t f)))

-- tokens that the reader with the limits reads as a pipe are a spelling of it within the limits
pub text_found : (room : ℕ) (ts : Row) (p : Pipe) → length ts < room → parse room (marked_row at_start ts) ≡ Ok p → Spells p ts
text_found room ts p le e = spelt ts p (found room (marked_row at_start ts) p (rw marked_length le) e)

-- where the reader with the limits stops, the tokens are refused with the limits
pub text_refused : (room : ℕ) (ts left : Row) → length ts < room → parse room (marked_row at_start ts) ≡ Err left → IsOut ts left
text_refused room ts left le e = out ts left (refused room (marked_row at_start ts) left (rw marked_length le) e)

-- a front is within the limits too
pub front_within : (c : LimitCounts) (xs ys : Row) → AreWithin c (xs ++ ys) → AreWithin c xs
front_within c [] ys w = tt
front_within c (t ∷ xs) ys w = (w.0, front_within (counts_after c t.kind) xs ys w.1)
