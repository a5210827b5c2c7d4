-- A reader does what the automaton does, and what it finds is so.
use Rattle.std.proofs.Common.{◌≡◌, ℕ, ◌≤◌, Bool, true, false, List, [], ◌∷◌, ◌++◌, length, Option, Some, None, Ok, Err, cond, refl, ap, sym, ◌∙◌, append_assoc, arith}
use denote.Enum.Bare.{same_true}
use Rattle.pdl_semantics.specs.Tree.{Span, Ident, Number, Literal, Location, LockKind, Kind}
use Rattle.pdl_syntax_tokens.specs.contracts.token.Mark.{the_type}
use Rattle.pdl_syntax_tokens.specs.declared.token.Mark.{Mark}
use Rattle.pdl_syntax_tokens.specs.declared.token.Mark.TheVariants as mark
use Rattle.pdl_syntax_tokens.specs.declared.token.TokenKind.{TokenKind}
use Rattle.pdl_syntax_tokens.specs.declared.token.TokenKind.TheVariants as kind
use Rattle.pdl_syntax_tokens.specs.Cursor.{first_kind}
use Rattle.pdl_syntax_tokens.specs.Tokens.{Token}
use Rattle.pdl_syntax_tokens.specs.Tokens.{Row}
use Rattle.pdl_syntax_grammar.specs.Grammar.{Word, on, at, mark_of, lock_mark, location_row}
use Rattle.pdl_syntax_cursor.specs.Looks.{is_mark}
use Rattle.pdl_syntax_grammar.specs.Reading.{Outcome, Parser, and_then, take, name, number, literal, access, lock_kind}
use Rattle.pdl_syntax_grammar.specs.Reading as reading
use Rattle.pdl_syntax_grammar.specs.Automaton.{Sym, a, a_name, a_number, a_literal, an_access, a_lock_kind, Stack, act, run}

-- what a reader answers is so, and the automaton has the same tokens left, and where it refuses tokens the automaton stops at them
pub data Good {A : Type 0} (P : A → Row → Type 0) (before after : Stack) : Outcome A → Row → Type 0 where
  reads : {v : A} {r ts : Row} → P v r → length r ≤ length ts
      → ((below : Stack) → run ts (before ++ below) ≡ run r (after ++ below)) → Good P before after (Ok (v, r)) ts
  stops : {left ts : Row} → ((below : Stack) → run ts (before ++ below) ≡ Some left) → Good P before after (Err left) ts

-- what was read before, and what the automaton did there
pub beyond : {A : Type 0} {P : A → Row → Type 0} {before middle after : Stack} {o : Outcome A} {ts r : Row} →
    length r ≤ length ts → ((below : Stack) → run ts (before ++ below) ≡ run r (middle ++ below)) → Good P middle after o r → Good P before after o ts
beyond le e (reads p le2 f) = reads p (omega arith) (λ below. e below ∙ f below)
beyond le e (stops f) = stops (λ below. e below ∙ f below)

-- one reader after another, where more is expected after the first
pub
    then : {A B : Type 0} {P : A → Row → Type 0} {Q : B → Row → Type 0} {before middle after : Stack} (more : Stack)
    {o : Outcome A} (f : A → Parser B) {ts : Row} →
    Good P before middle o ts
    → ((v : A) (r : Row) → P v r → length r ≤ length ts → Good Q (middle ++ more) after (f v r) r)
    → Good Q (before ++ more) after (and_then o f) ts
then {before = b} {middle = m} more f (reads {v = v} {r = r} {ts = ts} p le e) h =
    beyond le (λ below. rw append_assoc (e (more ++ below) ∙ ap (run r) (sym (append_assoc m more below)))) (h v r p le)
then {before = b} more f (stops e) h = stops (λ below. rw append_assoc (e (more ++ below)))

-- what a reader answers stays right with more expected after it
pub under : {A : Type 0} {P : A → Row → Type 0} {before after : Stack} {o : Outcome A} {ts : Row} (more : Stack)
    → Good P before after o ts → Good P (before ++ more) (after ++ more) o ts
under {before = b} {after = m} more (reads {r = r} p le e) =
    reads p le (λ below. rw append_assoc (e (more ++ below) ∙ ap (run r) (sym (append_assoc m more below))))
under {before = b} more (stops e) = stops (λ below. rw append_assoc (e (more ++ below)))

-- a reader that is good for what it finds is good for whatever follows from that
pub weaker : {A : Type 0} {P Q : A → Row → Type 0} {before after : Stack} {o : Outcome A} {ts : Row}
    → ((v : A) (r : Row) → P v r → length r ≤ length ts → Q v r) → Good P before after o ts → Good Q before after o ts
weaker f (reads p le e) = reads (f _ _ p le) le e
weaker f (stops e) = stops e

-- one token, which the automaton takes
pub step : {A : Type 0} {P : A → Row → Type 0} {s : Sym} {above more after : Stack} {o : Outcome A} {k : TokenKind} {w : Word} {ts : Row} →
    act s k ≡ Some above → Good P (above ++ more) after o ts → Good P (s ∷ more) after o (on w k ∷ ts)
step {above = u} {more = m} {ts = ts} e g = beyond (omega arith) (λ below. rw e (ap (run ts) (sym (append_assoc u m below)))) g

-- where the automaton does the same as with other symbols
pub instead : {A : Type 0} {P : A → Row → Type 0} {before after : Stack} {o : Outcome A} {ts : Row} (other : Stack) →
    ((below : Stack) → run ts (before ++ below) ≡ run ts (other ++ below)) → Good P other after o ts → Good P before after o ts
instead other e g = beyond (omega arith) e g

-- ---- the tokens

-- the word of these bytes at this place
abbrev pub word : List ℕ → Span → Word
word x s = record { text = x; span = s }

-- the bytes of a token, with their place
abbrev pub word_of : Token → Word
word_of t = word t.text t.span

-- a mark that is taken for another is that one
pub same_marks : (m k : Mark) → is_mark m (Some (kind.Mark k)) ≡ true → k ≡ m
same_marks m k e = same_true the_type tt k m e

-- a kind of token that is taken for a mark is that mark
pub is_that : (m : Mark) (k : TokenKind) → is_mark m (Some k) ≡ true → k ≡ kind.Mark m
is_that m (kind.Mark k) e = ap (λ x. kind.Mark x) (same_marks m k e)
is_that m _ e = cc

-- the tokens begin with this mark
pub record Begins_with (m : Mark) (ts : Row) : Type 0 where
  pub w : Word
  pub more : Row
  pub is : ts ≡ at w m ∷ more

-- tokens whose first is this mark begin with it
pub begins : (m : Mark) (ts : Row) → is_mark m (first_kind ts) ≡ true → Begins_with m ts
begins m [] e = cc
begins m (t ∷ ts) e = record { w = word_of t; more = ts; is = ap (λ k. on (word_of t) k ∷ ts) (is_that m t.kind e) }

-- one case for a test, with the equation
pub on_test : (P : Bool → Type 0) (b : Bool) → (b ≡ true → P true) → (b ≡ false → P false) → P b
on_test P true one other = one refl
on_test P false one other = other refl

-- what holds where nothing is there, and where something is, holds of what may be there
pub on_option : {A : Type 0} (P : Option A → Type 0) (o : Option A) → (o ≡ None → P None) → ((x : A) → o ≡ Some x → P (Some x)) → P o
on_option P None none some = none refl
on_option P (Some x) none some = some x refl

-- what was taken is the mark
abbrev pub Taken : Mark → Row → Span → Row → Type 0
Taken m ts s r = (x : List ℕ) × (ts ≡ at (word x s) m ∷ r)

-- a mark is read as the automaton takes it, and what is read is so
pub take_good : (m : Mark) (ts : Row) → Good (Taken m ts) (a m ∷ []) [] (take m ts) ts
unfolding take
take_good m [] = stops (λ below. refl)
take_good m (t ∷ ts) = on_test (λ b. Good (Taken m (t ∷ ts)) (a m ∷ []) [] (cond b (Ok (t.span, ts)) (Err (t ∷ ts))) (t ∷ ts)) (is_mark m (Some t.kind))
    (λ e. reads (t.text, ap (λ k. on (word_of t) k ∷ ts) (is_that m t.kind e)) (omega arith) (λ below. rw e refl))
    (λ e. stops (λ below. rw e refl))

-- the tokens begin with the name
abbrev pub Named : Row → Ident → Row → Type 0
Named ts x r = ts ≡ on (word x.name x.span) kind.Name ∷ r

-- a name is read as the automaton takes it, and what is read is so
pub name_good : (ts : Row) → Good (Named ts) (a_name ∷ []) [] (name ts) ts
unfolding name
name_good [] = stops (λ below. refl)
name_good (t ∷ ts) = go t.kind (word_of t)
  where
    go : (k : TokenKind) (w : Word) → Good (Named (on w k ∷ ts)) (a_name ∷ []) [] (name (on w k ∷ ts)) (on w k ∷ ts)
    go kind.Name w = reads refl (omega arith) (λ below. refl)
    go _ w = stops (λ below. refl)

-- the tokens begin with the number
abbrev pub Numbered : Row → Number → Row → Type 0
Numbered ts n r = (x : List ℕ) × (ts ≡ on (word x n.span) (kind.Number n.value) ∷ r)

-- a number is read as the automaton takes it, and what is read is so
pub number_good : (ts : Row) → Good (Numbered ts) (a_number ∷ []) [] (number ts) ts
unfolding number
number_good [] = stops (λ below. refl)
number_good (t ∷ ts) = go t.kind (word_of t)
  where
    go : (k : TokenKind) (w : Word) → Good (Numbered (on w k ∷ ts)) (a_number ∷ []) [] (number (on w k ∷ ts)) (on w k ∷ ts)
    go (kind.Number n) w = reads (w.text, refl) (omega arith) (λ below. refl)
    go _ w = stops (λ below. refl)

-- the tokens begin with the literal
abbrev pub Valued : Row → Literal → Row → Type 0
Valued ts l r = (x : List ℕ) × (ts ≡ on (word x l.span) (kind.Literal l.width l.value) ∷ r)

-- a literal is read as the automaton takes it, and what is read is so
pub literal_good : (ts : Row) → Good (Valued ts) (a_literal ∷ []) [] (literal ts) ts
unfolding literal
literal_good [] = stops (λ below. refl)
literal_good (t ∷ ts) = go t.kind (word_of t)
  where
    go : (k : TokenKind) (w : Word) → Good (Valued (on w k ∷ ts)) (a_literal ∷ []) [] (literal (on w k ∷ ts)) (on w k ∷ ts)
    go (kind.Literal n v) w = reads (w.text, refl) (omega arith) (λ below. refl)
    go _ w = stops (λ below. refl)

-- the tokens begin with the `R` or `W`
abbrev pub Accessed : Row → Kind → Row → Type 0
Accessed ts k r = (w : Word) × (ts ≡ at w (mark_of k) ∷ r)

-- an `R` or a `W` is read as the automaton takes it, and what is read is so
pub access_good : (ts : Row) → Good (Accessed ts) (an_access ∷ []) [] (access ts) ts
unfolding access
access_good [] = stops (λ below. refl)
access_good (t ∷ ts) = go t.kind (word_of t)
  where
    go : (k : TokenKind) (w : Word) → Good (Accessed (on w k ∷ ts)) (an_access ∷ []) [] (access (on w k ∷ ts)) (on w k ∷ ts)
    go (kind.Mark mark.R) w = reads (w, refl) (omega arith) (λ below. refl)
    go (kind.Mark mark.W) w = reads (w, refl) (omega arith) (λ below. refl)
    go _ w = stops (λ below. refl)

-- the tokens begin with the kind of lock
abbrev pub LockedBy : Row → LockKind → Row → Type 0
LockedBy ts k r = (w : Word) × (ts ≡ at w (lock_mark k) ∷ r)

-- a kind of lock is read as the automaton takes it, and what is read is so
pub lock_kind_good : (ts : Row) → Good (LockedBy ts) (a_lock_kind ∷ []) [] (lock_kind ts) ts
unfolding lock_kind
lock_kind_good [] = stops (λ below. refl)
lock_kind_good (t ∷ ts) = go t.kind (word_of t)
  where
    go : (k : TokenKind) (w : Word) → Good (LockedBy (on w k ∷ ts)) (a_lock_kind ∷ []) [] (lock_kind (on w k ∷ ts)) (on w k ∷ ts)
    go (kind.Mark mark.Queue) w = reads (w, refl) (omega arith) (λ below. refl)
    go (kind.Mark mark.Bypass) w = reads (w, refl) (omega arith) (λ below. refl)
    go (kind.Mark mark.Rename) w = reads (w, refl) (omega arith) (λ below. refl)
    go _ w = stops (λ below. refl)

-- the tokens begin with the name in square brackets
pub record IsIndex (ts : Row) (x : Ident) (r : Row) : Type 0 where
  pub o : Word
  pub c : Word
  pub is : ts ≡ at o mark.OpenSquare ∷ on (word x.name x.span) kind.Name ∷ at c mark.CloseSquare ∷ r

index_good : (ts : Row) → Good (IsIndex ts) (a mark.OpenSquare ∷ a_name ∷ a mark.CloseSquare ∷ []) [] (reading.index ts) ts
unfolding reading.index
index_good ts =
    then _ _ (take_good mark.OpenSquare ts) (λ o r1 p1 _.
    then _ _ (name_good r1) (λ y r2 p2 _.
    then _ _ (take_good mark.CloseSquare r2) (λ c r3 p3 _.
    reads (record { o = word p1.0 o; c = word p3.0 c; is = rw (p1.1, p2, p3.1) refl }) (omega arith) (λ below. refl))))

-- the tokens begin with the location
pub record IsPlace (ts : Row) (l : Location) (r : Row) : Type 0 where
  pub o : Word
  pub c : Word
  pub is : ts ≡ location_row (word l.mem.name l.mem.span) o (word l.address.name l.address.span) c r

-- a location is read as the automaton takes it, and what is read is so
pub place_good : (ts : Row) → Good (IsPlace ts) (a_name ∷ a mark.OpenSquare ∷ a_name ∷ a mark.CloseSquare ∷ []) [] (reading.place ts) ts
unfolding reading.place
place_good ts =
    then _ _ (name_good ts) (λ x r1 p1 _.
    then _ _ (index_good r1) (λ y r2 p2 _.
    reads (record { o = p2.o; c = p2.c; is = rw (p1, p2.is) refl }) (omega arith) (λ below. refl)))
