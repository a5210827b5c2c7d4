-- Where files tell what they hold, reads give that.
use Rattle.std.proofs.Common.{◌≡◌, ℕ, ◌⊎◌, ◌<◌, ◌≤◌, ◌+◌, zero, suc, List, [], ◌∷◌, ◌++◌, map, length, take, Option, Some, None, Result, Ok, Err, inl, inr, refl, sym, ap, subst, ◌∙◌, arith}
use Rattle.pdl_kit.specs.declared.rule.Rule.{Rule}
use Rattle.pdl_system.specs.Answers.{Answer}
use Rattle.pdl_system.specs.Files.{Held, bytes_of, IsTold, AreTold}
use Rattle.pdl_cli_args.specs.Line.{Command}
use Rattle.pdl_cli_failure.specs.declared.failure.Position.{Position}
use Rattle.pdl_cli_failure.specs.declared.failure.Failure.{Failure}
use Rattle.pdl_cli_failure.specs.declared.failure.Failure.TheVariants.{Usage, Refused, ReadFault, WriteFault, NoMemory}
use Rattle.pdl_cli_failure.specs.Failures.{status_of}
use Rattle.pdl_cli_commands.specs.Commands.{IsWrongFor, Writes}
use Rattle.pdl_cli_commands.specs.Reading.{files, with_text, texts, IsReading, AreAllGiven, HasFailed}
use Rattle.pdl_cli_commands.specs.Outcomes.{Seen, Explains}
use Rattle.pdl_cli.specs.Told.{Hold, WritesOf, IsWrongOf, HasComeOf, IsDecidedBy}
use Rattle.pdl_cli_commands.proofs.Readings.{few_texts, few_reads, last_given}
use Rattle.pdl_cli.proofs.ExitStatus.{exclusive}

-- a name holds one text
one_text : (held : Held) (name a b : List ℕ) → bytes_of held name ≡ Some a → bytes_of held name ≡ Some b → a ≡ b
one_text held name a b g h = let k : Some a ≡ Some b = sym g ∙ h in cc

-- the texts that the first of some names hold are the first of those that more of them hold
same_first : (held : Held) (names ts us : List (List ℕ)) → Hold held names ts → Hold held names us → length ts ≤ length us → ts ≡ take (length ts) us
same_first held names [] us h k l = refl
same_first held [] (t ∷ ts) us h k l = absurd h
same_first held (n ∷ ns) (t ∷ ts) [] h k l = absurd (omega (arith, l))
same_first held (n ∷ ns) (t ∷ ts) (u ∷ us) h k l =
    let e : t ≡ u = one_text held n t u h.0 k.0 in
    ap (λ x. x ∷ ts) e ∙ ap (λ xs. u ∷ xs) (same_first held ns ts us h.1 k.1 (omega (arith, l)))

-- not more texts than names are held
hold_few : (held : Held) (names ts : List (List ℕ)) → Hold held names ts → length ts ≤ length names
hold_few held names [] h = omega arith
hold_few held [] (t ∷ ts) h = absurd h
hold_few held (n ∷ ns) (t ∷ ts) h = let few = hold_few held ns ts h.1 in omega (arith, few)

hold_one : (held : Held) (name : List ℕ) (names ts : List (List ℕ)) (o : Option (List ℕ)) (n : ℕ) → IsTold (Some held) name o
    → length ts ≤ n → length (with_text o ts) ≡ suc n → (length ts ≡ n → Hold held names ts) → Hold held (name ∷ names) (with_text o ts)
hold_one held name names ts None n told few e h = absurd (omega (arith, few, e))
hold_one held name names ts (Some t) n told few e h = (told, h (omega (arith, e)))

-- where each read gave its text, these are the texts that the names hold
held_texts : (held : Held) (reads : List Answer) (rest : List (List ℕ)) → AreTold (Some held) reads → length (texts reads) ≡ length reads
    → Hold held (map (λ (a : Answer). a.name) reads ++ rest) (texts reads)
held_texts held [] rest told e = tt
held_texts held (a ∷ rs) rest told e =
    hold_one held a.name (map (λ (x : Answer). x.name) rs ++ rest) (texts rs) a.bytes (length rs) told.0 (few_texts rs) e
    (held_texts held rs rest told.1)

text_one : (o : Option (List ℕ)) (k n : ℕ) (rs : List Answer) → length (texts rs) ≤ n → length (with_text o (texts rs)) ≡ suc n
    → (length (texts rs) ≡ n → texts (take k rs) ≡ take k (texts rs)) → with_text o (texts (take k rs)) ≡ take (suc k) (with_text o (texts rs))
text_one None k n rs few e h = absurd (omega (arith, few, e))
text_one (Some t) k n rs few e h = ap (λ l. t ∷ l) (h (omega (arith, e)))

-- and the first so many reads gave the first so many texts
texts_take : (k : ℕ) (reads : List Answer) → length (texts reads) ≡ length reads → texts (take k reads) ≡ take k (texts reads)
texts_take zero reads e = refl
texts_take (suc k) [] e = refl
texts_take (suc k) (a ∷ rs) e = text_one a.bytes k (length rs) rs (few_texts rs) e (texts_take k rs)

take_whole : (k : ℕ) (ts : List (List ℕ)) → length ts ≤ k → take k ts ≡ ts
take_whole zero [] h = refl
take_whole zero (t ∷ ts) h = absurd (omega (arith, h))
take_whole (suc k) [] h = refl
take_whole (suc k) (t ∷ ts) h = ap (λ l. t ∷ l) (take_whole k ts (omega (arith, h)))

less_or_same : (m n : ℕ) → m ≤ n → (m < n) ⊎ (m ≡ n)
less_or_same zero zero h = inr refl
less_or_same zero (suc n) h = inl (omega arith)
less_or_same (suc m) zero h = absurd (omega (arith, h))
less_or_same (suc m) (suc n) h = one_more (less_or_same m n (omega (arith, h)))
  where
    one_more : (m < n) ⊎ (m ≡ n) → (suc m < suc n) ⊎ (suc m ≡ suc n)
    one_more (inl l) = inl (omega (arith, l))
    one_more (inr e) = inr (ap suc e)

module _ (held : Held) (command : Command) (reads : List Answer) (told : AreTold (Some held) reads) (order : IsReading command reads) where
  holds : length (texts reads) ≡ length reads → Hold held (files command) (texts reads)
  holds e = subst (λ names. Hold held names (texts reads)) (sym order.in_order) (held_texts held reads order.unread told e)

  -- where all files gave their texts, each read did
  each_given : AreAllGiven command reads → length (texts reads) ≡ length reads
  each_given all =
      let few = few_texts reads in let most = few_reads command reads order in
      let whole : length (texts reads) ≡ length (files command) = all in omega (arith, whole, few, most)

  -- so what a command writes of these texts, it writes of what its files hold
  written_of : AreAllGiven command reads → (text : List ℕ) → Writes command (texts reads) text → WritesOf held command text
  written_of all text writes = (texts reads, holds (each_given all), all, writes)

  -- what a command writes of all its files, it writes of no wrong one
  none_wrong : AreAllGiven command reads → (text : List ℕ) → Writes command (texts reads) text
      → (rule : Rule) (position : Position) → IsWrongOf held command rule position → ⊥
  none_wrong all text writes rule position w =
      let whole : length (texts reads) ≡ length (files command) = all in
      let each = each_given all in
      let short = hold_few held (files command) w.0 w.1 in
      let within : length w.0 ≤ length (texts reads) = omega (arith, whole, short) in
      let same = same_first held (files command) w.0 (texts reads) w.1 (holds each) within in
      by_length (length w.0) each (subst (λ us. IsWrongFor command us rule position) same w.2)
      (less_or_same (length w.0) (length (texts reads)) within)
    where
      by_length : (n : ℕ) → length (texts reads) ≡ length reads → IsWrongFor command (take n (texts reads)) rule position
          → (n < length (texts reads)) ⊎ (n ≡ length (texts reads)) → ⊥
      by_length n each v (inl l) =
          order.right n (omega (arith, l, each)) rule position (subst (λ us. IsWrongFor command us rule position) (sym (texts_take n reads each)) v)
      by_length n each v (inr e) =
          exclusive command (texts reads) text rule position writes
          (subst (λ us. IsWrongFor command us rule position) (take_whole n (texts reads) (omega (arith, e))) v)

  -- the last text that was read is that of the first wrong file
  first_wrong : (rule : Rule) (position : Position) → IsWrongFor command (texts reads) rule position → IsWrongOf held command rule position
  first_wrong rule position w = by_length (less_or_same (length (texts reads)) (length reads) (few_texts reads))
    where
      by_length : (length (texts reads) < length reads) ⊎ (length (texts reads) ≡ length reads) → IsWrongOf held command rule position
      by_length (inl l) = absurd (last_given command reads order l rule position w)
      by_length (inr e) = (texts reads, holds e, w)

-- where reads gave what is held, what came of a command has its cause in what is held
pub come_of : (held : Held) (command : Command) (s : Seen) (o : Result (Unit {0}) Failure) → AreTold (Some held) s.reads
    → Explains (Some command) s o → HasComeOf held command s o
come_of held command s (Ok x) told e = (e.cause.1, written_of held command s.reads told e.order e.cause.0 e.cause.1 e.cause.2, e.cause.3)
come_of held command s (Err Usage) told e = tt
come_of held command s (Err (Refused rule position)) told e = first_wrong held command s.reads told e.order rule position e.cause.0
come_of held command s (Err ReadFault) told e = tt
come_of held command s (Err WriteFault) told e = (e.cause.2, written_of held command s.reads told e.order e.cause.1 e.cause.2 e.cause.3, e.cause.4)
come_of held command s (Err NoMemory) told e = tt

-- and its status is decided by what is held
pub decided_by : (held : Held) (command : Command) (s : Seen) (o : Result (Unit {0}) Failure) → AreTold (Some held) s.reads
    → Explains (Some command) s o → IsDecidedBy held command s (status_of o)
decided_by held command s (Ok x) told e = record {
  wrong = λ rule position w no. absurd (none_wrong held command s.reads told e.order e.cause.0 e.cause.1 e.cause.2 rule position w);
  right = λ no reads writes. inl refl;
}
decided_by held command s (Err Usage) told e = absurd e.cause
decided_by held command s (Err (Refused rule position)) told e = record {
  wrong = λ r p w no. inl refl;
  right = λ no reads writes. absurd (no rule position (first_wrong held command s.reads told e.order rule position e.cause.0));
}
decided_by held command s (Err ReadFault) told e = record {
  wrong = λ rule position w no. absurd (no e.cause.1);
  right = λ no reads writes. absurd (reads e.cause.1);
}
decided_by held command s (Err WriteFault) told e = record {
  wrong = λ rule position w no. absurd (none_wrong held command s.reads told e.order e.cause.1 e.cause.2 e.cause.3 rule position w);
  right = λ no reads writes. absurd (writes e.cause.0);
}
decided_by held command s (Err NoMemory) told e = record { wrong = λ rule position w no. inr refl; right = λ no reads writes. inr refl }
