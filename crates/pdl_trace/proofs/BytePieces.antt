-- Bytes that are passed on in pieces, one piece after another.
use Rattle.std.proofs.Common.{◌≡◌, ℕ, ◌+◌, List, [], ◌++◌, length, take, drop, Option, Some, None, refl, sym, ap, ◌∙◌, subst, append_assoc, append-nil, length-append, arith}
use Rattle.std.specs.Prelude.{Result, Ok, Err, IsErr}
use Rattle.std.proofs.lemmas.Result.{MatchResult-from_err}
use Rattle.std.proofs.lemmas.List.{take-append-drop, take-append-le}
use Rattle.std.proofs.Math.Seq.{take-append-add}
use Rattle.pdl_kit.specs.Sinks.{TakesPrefix, with_bytes}
use Rattle.pdl_trace.specs.Passed.{HasPassed, Passes, WritesText}

-- bytes after bytes
with_more : (o : Option (List ℕ)) (a b : List ℕ) → with_bytes b (with_bytes a o) ≡ with_bytes (a ++ b) o
with_more None a b = refl
with_more (Some w) a b = ap (λ l. Some l) (append_assoc w a b)

-- no bytes more
with_none : (o : Option (List ℕ)) → o ≡ with_bytes [] o
with_none None = refl
with_none (Some w) = ap (λ l. Some l) (sym (append-nil w))

-- what holds nothing has passed on nothing so far
pub none_passed : (o : Option (List ℕ)) → HasPassed o o [] []
none_passed o = record { passed = []; whole = refl; taken = with_none o }

-- a prefix of some bytes is one of these and more
prefix_more : (old new : Option (List ℕ)) (a b : List ℕ) → TakesPrefix old new a → TakesPrefix old new (a ++ b)
prefix_more old new a b t = (t.0, omega (arith, t.1, length-append a b), t.2 ∙ ap (λ l. with_bytes l old) (sym (take-append-le t.0 a b t.1)))

-- a prefix of the front of a piece
pub prefix_front : (old new : Option (List ℕ)) (held front rest : List ℕ) → TakesPrefix old new (held ++ front)
    → TakesPrefix old new (held ++ (front ++ rest))
prefix_front old new held front rest t = subst (TakesPrefix old new) (append_assoc held front rest) (prefix_more old new (held ++ front) rest t)

-- a prefix of the bytes up to some place
pub prefix_to : (old new : Option (List ℕ)) (held line : List ℕ) (n : ℕ) (front : List ℕ)
    → front ≡ held ++ take n line → TakesPrefix old new front → TakesPrefix old new (held ++ line)
prefix_to old new held line n front e t =
    subst (TakesPrefix old new)
    (ap (λ f. f ++ drop n line) e ∙ append_assoc held (take n line) (drop n line) ∙ ap (λ l. held ++ l) (take-append-drop n line))
    (prefix_more old new front (drop n line) t)

module _ (o a b : Option (List ℕ)) (bytes held line : List ℕ) (so_far : HasPassed o a bytes held) where
  -- the bytes and the line are what was passed on, what was held and the line
  together : bytes ++ line ≡ so_far.passed ++ (held ++ line)
  together = ap (λ l. l ++ line) so_far.whole ∙ append_assoc so_far.passed held line

  -- one piece more is passed on
  pub passed_more : (held' : List ℕ) → HasPassed a b (held ++ line) held' → HasPassed o b (bytes ++ line) held'
  passed_more held' more =
      record {
        passed = so_far.passed ++ more.passed;
        whole = together ∙ ap (λ l. so_far.passed ++ l) more.whole ∙ sym (append_assoc so_far.passed more.passed held');
        taken = more.taken ∙ ap (with_bytes more.passed) so_far.taken ∙ with_more o so_far.passed more.passed;
      }

  -- where a prefix of the piece has been written, so has one of all bytes
  pub prefix_on : TakesPrefix a b (held ++ line) → TakesPrefix o b (bytes ++ line)
  prefix_on t =
      let n = length so_far.passed + t.0 in
      let cut : take n (bytes ++ line) ≡ so_far.passed ++ take t.0 (held ++ line) = ap (take n) together ∙ take-append-add so_far.passed (held ++ line) t.0 in (
        n,
        omega (arith, t.1, ap length together, length-append so_far.passed (held ++ line)),
        t.2 ∙ ap (with_bytes (take t.0 (held ++ line))) so_far.taken ∙ with_more o so_far.passed (take t.0 (held ++ line)) ∙ ap (λ l. with_bytes l o) (sym cut),
      )

  -- a piece more, or a fault on its way
  pub passes_on : {X Y : Type 0} (r : Result X Y) (held' : List ℕ) → Passes a b r (held ++ line) held' → Passes o b r (bytes ++ line) held'
  passes_on (Ok x) held' p = passed_more held' p
  passes_on (Err e) held' t = prefix_on t

-- two pieces, of which the second is passed on or fails on its way
pub both_on : (o a b : Option (List ℕ)) (bytes first second held held' : List ℕ) → HasPassed o a (bytes ++ first) held
    → {X Y : Type 0} (r : Result X Y) → Passes a b r (held ++ second) held'
    → Passes o b r (bytes ++ (first ++ second)) held'
both_on o a b bytes first second held held' so_far r p =
    subst (λ l. Passes o b r l held') (append_assoc bytes first second) (passes_on o a b (bytes ++ first) held second so_far r held' p)

-- the rest fails on its way
pub prefix_off : (o a b : Option (List ℕ)) (bytes held : List ℕ) → HasPassed o a bytes held → TakesPrefix a b held → TakesPrefix o b bytes
prefix_off o a b bytes held so_far t =
    subst (TakesPrefix o b) (append-nil bytes)
    (prefix_on o a b bytes held [] so_far (subst (TakesPrefix a b) (sym (append-nil held)) t))

-- where the bytes that are held are handed on as a text, all bytes have been written
pub whole_on : (o a b : Option (List ℕ)) (bytes held : List ℕ) → HasPassed o a bytes held
    → {X Y : Type 0} (r : Result X Y) → WritesText a b r held → WritesText o b r bytes
whole_on o a b bytes held so_far (Ok x) w = w ∙ ap (with_bytes held) so_far.taken ∙ with_more o so_far.passed held ∙ ap (λ l. with_bytes l o) (sym so_far.whole)
whole_on o a b bytes held so_far (Err e) t = prefix_off o a b bytes held so_far t

-- a fault has left a prefix, whichever error tells of it
pub faulted : {X Y : Type 0} (r : Result X Y) (old new : Option (List ℕ)) (bytes held : List ℕ) → IsErr r
    → TakesPrefix old new bytes → Passes old new r bytes held
faulted r old new bytes held is t = MatchResult-from_err r (λ x. HasPassed old new bytes held) (λ e. TakesPrefix old new bytes) is (λ e. t)

-- where a whole text was to be written, a fault has left a prefix of it, whichever error tells of it
pub text_faulted : {X Y : Type 0} (r : Result X Y) (old new : Option (List ℕ)) (text : List ℕ) → IsErr r
    → TakesPrefix old new text → WritesText old new r text
text_faulted r old new text is t = MatchResult-from_err r (λ x. new ≡ with_bytes text old) (λ e. TakesPrefix old new text) is (λ e. t)

-- where there is nothing more to pass on, the held bytes are still held
pub nothing_more : (o : Option (List ℕ)) (held : List ℕ) → HasPassed o o (held ++ []) held
nothing_more o held = record { passed = []; whole = append-nil held; taken = with_none o }

-- ---- many pieces

-- of all bytes some were passed on, some are held, and the rest is to come
pub record IsUnderWay (old new : Option (List ℕ)) (all rest held : List ℕ) : Type 0 where
  pub done : List ℕ
  pub whole : done ++ rest ≡ all
  pub passed : HasPassed old new done held

-- at first the held bytes are held, and the text is still to come
pub at_first : (o : Option (List ℕ)) (held text : List ℕ) → IsUnderWay o o (held ++ text) text held
at_first o held text = record { done = held; whole = refl; passed = record { passed = []; whole = refl; taken = with_none o } }

-- at the end all bytes have been passed on, but for those that are held
pub at_last : (o a : Option (List ℕ)) (all rest held : List ℕ) → rest ≡ [] → IsUnderWay o a all rest held → HasPassed o a all held
at_last o a all rest held none w = subst (λ l. HasPassed o a l held) (sym (append-nil w.done) ∙ ap (λ l. w.done ++ l) (sym none) ∙ w.whole) w.passed

module _ (o a b : Option (List ℕ)) (all rest held piece after : List ℕ) (e : rest ≡ piece ++ after) (w : IsUnderWay o a all rest held) where
  split : (w.done ++ piece) ++ after ≡ all
  split = append_assoc w.done piece after ∙ ap (λ l. w.done ++ l) (sym e) ∙ w.whole

  -- where a piece has been passed on, the way goes on with what comes after it
  pub step_on : (held' : List ℕ) → HasPassed a b (held ++ piece) held' → IsUnderWay o b all after held'
  step_on held' more = record { done = w.done ++ piece; whole = split; passed = passed_more o a b w.done held piece w.passed held' more }

  -- where a piece was passed on in part, a prefix of the whole has been written
  pub step_off : TakesPrefix a b (held ++ piece) → TakesPrefix o b all
  step_off t = subst (TakesPrefix o b) split (prefix_more o b (w.done ++ piece) after (prefix_on o a b w.done held piece w.passed t))
