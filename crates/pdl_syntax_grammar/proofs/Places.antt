-- The place of a refusal: what the reader tells is the first token out of place, and there is one tree and one place.
use Rattle.std.proofs.Common.{◌≡◌, ℕ, zero, suc, ◌+◌, ◌-◌, ◌<◌, ◌≤◌, List, [], ◌∷◌, ◌++◌, length, Result, Option, Some, None, IfOk, Ok, Err, refl, sym, ap, ◌∙◌, subst, arith, append_assoc, length-append}
use Rattle.pdl_semantics.specs.Tree.{Pipe}
use Rattle.pdl_syntax_tree.specs.declared.tree.Pipe as r_pipe
use Rattle.pdl_syntax_tree.specs.View.{pipe_view}
use Rattle.pdl_syntax_tokens.specs.declared.token.TokenKind.{TokenKind}
use Rattle.pdl_syntax_tokens.specs.Tokens.{Piece, piece_at, placed_token, line_after, tokens_from, tokens, last_line}
use Rattle.pdl_syntax_grammar.specs.declared.error.GrammarError.{GrammarError}
use Rattle.pdl_syntax_grammar.specs.declared.error.GrammarError.TheVariants as error
use Rattle.pdl_syntax_tokens.specs.Tokens.{Row}
use Rattle.pdl_syntax_grammar.specs.Grammar.{Text}
use Rattle.pdl_syntax_cursor.specs.Limits.{at_start}
use Rattle.pdl_syntax_cursor.specs.MarkedTokens.{marked_row, first_line}
use Rattle.pdl_syntax_grammar.specs.Read.{IsRead, line_at}
use Rattle.pdl_syntax_grammar.specs.Reading.{parse}
use Rattle.pdl_syntax_grammar.specs.Text.{IsText, Begins, line_of, IsOutOfPlace, Tree, Misplaced, Gives, IsRefused}
use Rattle.pdl_syntax_grammar.specs.Automaton.{run, whole}
use Rattle.pdl_syntax_grammar.proofs.ReaderLaws.{is_text, stopped, same_pipe}
use Rattle.pdl_syntax_grammar.proofs.ReaderLimits.{IsOut, out, spelt, text_found, text_refused, front_within}
use Rattle.pdl_word.proofs.Lists.{longer, same_after}

-- ---- no more tokens than bytes

placed_one : (p : Piece) (start line : ℕ) (bytes : List ℕ) → length (placed_token p start line bytes) ≤ 1
placed_one p start line bytes = go p.kind refl
  where
    go : (o : Option TokenKind) → p.kind ≡ o → length (placed_token p start line bytes) ≤ 1
    go None e = rw e (omega arith)
    go (Some k) e = rw e (omega arith)

from_fewer : (inside start line : ℕ) (bytes : List ℕ) → length (tokens_from inside start line bytes) ≤ length bytes
from_fewer inside start line [] = omega arith
from_fewer (suc k) start line (c ∷ cs) = let h = from_fewer k (start + 1) line cs in omega (arith, h)
from_fewer zero start line (c ∷ cs) = let p = piece_at c (c ∷ cs) in
    let h = from_fewer (p.size - 1) (start + 1) (line_after c line) cs in
    omega (
      arith,
      h,
      placed_one p start line (c ∷ cs),
      length-append (placed_token p start line (c ∷ cs)) (tokens_from (p.size - 1) (start + 1) (line_after c line) cs),
    )

enough : (bytes : List ℕ) (room : ℕ) → room ≡ length bytes + 1 → length (tokens bytes) < room
enough bytes room e = let h = from_fewer 0 0 1 bytes in omega (arith, h, e)

-- ---- what the reader tells

-- bytes that are read to the end are a text of the pipe that is read
pub read_whole : (bytes : List ℕ) (room : ℕ) (p : Pipe)
    → room ≡ length bytes + 1 → parse room (marked_row at_start (tokens bytes)) ≡ Ok p → IsText bytes p
read_whole bytes room p le e = text_found room (tokens bytes) p (enough bytes room le) e

line_is : (left : Row) (last : ℕ) → line_at (first_line left) last ≡ line_of left last
line_is [] last = refl
line_is (t ∷ ts) last = refl

place_of : (bytes : List ℕ) (left : Row) (line : ℕ) → IsOut (tokens bytes) left
    → line ≡ line_of left (last_line bytes) → IsOutOfPlace bytes line
place_of bytes left line h place =
    record { front = h.front; after = h.after; split = h.split; place = place ∙ h.line (last_line bytes); begins = h.begins; bad = h.bad; no_text = h.no_text }

-- the line where the reader stops is that of the first token out of place
pub read_misplaced : (bytes : List ℕ) (room : ℕ) (left : Row) (line : ℕ) → room ≡ length bytes + 1
    → parse room (marked_row at_start (tokens bytes)) ≡ Err left →
    line ≡ line_at (first_line left) (last_line bytes) → IsOutOfPlace bytes line
read_misplaced bytes room left line le e place =
    place_of bytes left line (text_refused room (tokens bytes) left (enough bytes room le) e) (place ∙ line_is left (last_line bytes))

-- ---- what the automaton tells

-- bytes that the automaton takes to the end are a text of some pipe
pub recognised : (bytes : List ℕ) → run (marked_row at_start (tokens bytes)) whole ≡ None → (p : Pipe) × IsText bytes p
recognised bytes e = let t = is_text (marked_row at_start (tokens bytes)) e in (t.0, spelt (tokens bytes) t.0 t.1)

-- the line where the automaton stops is that of the first token out of place
pub stopped_at : (bytes : List ℕ) (left : Row) (line : ℕ)
    → run (marked_row at_start (tokens bytes)) whole ≡ Some left → line ≡ line_of left (last_line bytes)
    → IsOutOfPlace bytes line
stopped_at bytes left line e place = place_of bytes left line (out (tokens bytes) left (stopped (marked_row at_start (tokens bytes)) left e)) place

-- ---- one tree, one place

-- a text has one tree
pub one_tree : (bytes : List ℕ) (p q : Pipe) → IsText bytes p → IsText bytes q → p ≡ q
one_tree bytes p q h k = same_pipe (tokens bytes) p q h.text k.text

-- no text of a pipe has a token out of place
pub apart : (bytes : List ℕ) (p : Pipe) (line : ℕ) → IsText bytes p → IsOutOfPlace bytes line → ⊥
apart bytes p line h k = k.no_text p h

front_begins : (xs ys : Row) → Begins (xs ++ ys) → Begins xs
front_begins xs ys b =
    record {
      more = ys ++ b.more;
      pipe = b.pipe;
      text = subst (λ x. Text b.pipe x []) (append_assoc xs ys b.more) b.text;
      within = front_within at_start xs ys b.within;
    }

not_before : (bytes : List ℕ) (n m : ℕ) (h : IsOutOfPlace bytes n) (i : IsOutOfPlace bytes m) → length h.after < length i.after → ⊥
not_before bytes n m h i le =
    let k = longer h.front h.after i.front i.after (sym h.split ∙ i.split) le in
    i.bad k.t (k.more ++ h.after) k.after
    (front_begins (i.front ++ k.t ∷ []) k.more (subst Begins (k.front ∙ sym (append_assoc i.front (k.t ∷ []) k.more)) h.begins))

-- the first token out of place stands on one line
pub one_place : (bytes : List ℕ) (n m : ℕ) → IsOutOfPlace bytes n → IsOutOfPlace bytes m → n ≡ m
one_place bytes n m h i =
    let le : length h.after ≡ length i.after = grind (arith, not_before bytes n m h i, not_before bytes m n i h) in
    h.place ∙ (ap (λ b. line_of b (last_line bytes)) (same_after h.front h.after i.front i.after (sym h.split ∙ i.split) le) ∙ sym i.place)

-- ---- what is answered

-- a tree that is answered is that of the text
pub answer_found : (bytes : List ℕ) (x : Result r_pipe.Pipe GrammarError) → IsRead bytes x → IfOk x (λ p. IsText bytes (pipe_view p))
answer_found bytes (Ok p) h = h
answer_found bytes (Err e) h = tt

-- to a text of a pipe its tree is answered, unless memory runs out
pub answer_only : (bytes : List ℕ) (x : Result r_pipe.Pipe GrammarError) (p : Pipe) → IsRead bytes x → IsText bytes p → Gives (Tree p) x
answer_only bytes (Ok q) p h k = one_tree bytes (pipe_view q) p h k
answer_only bytes (Err (error.Misplaced line)) p h k = absurd (apart bytes p line k h)
answer_only bytes (Err error.NoMemory) p h k = tt

-- to bytes with a token out of place its line is answered, unless memory runs out
pub answer_exact : (bytes : List ℕ) (x : Result r_pipe.Pipe GrammarError) (line : ℕ) → IsRead bytes x
    → IsOutOfPlace bytes line → Gives (Misplaced line) x
answer_exact bytes (Ok q) line h k = absurd (apart bytes (pipe_view q) line h k)
answer_exact bytes (Err (error.Misplaced n)) line h k = one_place bytes n line h k
answer_exact bytes (Err error.NoMemory) line h k = tt

-- an error that is answered tells why, unless memory ran out
pub answer_refused : (bytes : List ℕ) (x : Result r_pipe.Pipe GrammarError) → IsRead bytes x → IsRefused bytes x
answer_refused bytes (Ok q) h = tt
answer_refused bytes (Err (error.Misplaced line)) h = h
answer_refused bytes (Err error.NoMemory) h = tt
