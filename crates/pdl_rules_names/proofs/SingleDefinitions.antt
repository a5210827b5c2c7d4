-- Where no name is defined twice, no use has two definitions.
use Rattle.std.proofs.Common.{◌≡◌, refl, ap₂, ◌∙◌, subst, ℕ, zero, suc, true, false, ◌||◌, List, [], ◌∷◌, ◌++◌, take, drop, bytes_eq, Option, Some, None, if◌then◌else◌}
use Rattle.std.specs.List.{list_any}
use Rattle.std.proofs.lemmas.Bool.{or_cases, or_left, or_right, both_ways, false_from_ne_true}
use Rattle.std.proofs.lemmas.List.Folds.{list_any-append}
use Rattle.std.proofs.lemmas.Slice.Eq.{bytes_eq-Decides}
use Rattle.std.proofs.Common.{⊎_elim}
use Rattle.pdl_kit.specs.declared.rule.Rule.{Rule}
use Rattle.pdl_kit.specs.declared.rule.Rule.TheVariants.{N2}
use Rattle.pdl_semantics.specs.Tree.{Stmt, Separator, CombRead, Bind, SpecCall, DelayedRead, Write, Reserve, Block, Release, If, Call, Verify, Update, SpecCheck, SpecBarrier, Pipe}
use Rattle.pdl_rules.specs.Places.{Place, Parameter, Memory, Statement, End, StartClause, line_of}
use Rattle.pdl_rules.specs.Parts.{is_some_and, parts_of}
use Rattle.pdl_rules.specs.Names.{Use, OfVariable, OfMemory, OfGuess, defines_use, name_at, name_of, either_name, is_taken_name, breaks_n2}
use Rattle.pdl_rules.specs.Refusal.{breaks_rule, broken_line}
use Rattle.pdl_rules_names.specs.First.{first_where}
use Rattle.pdl_rules_names.proofs.Firsts.{zero_first, later_first}
use Rattle.pdl_word.proofs.Bools.{none_given}

abbrev name_used : Use → List ℕ
name_used (OfVariable x) = x
name_used (OfMemory x) = x
name_used (OfGuess x) = x

first_name : (x : List ℕ) (a b : Option (List ℕ)) → is_some_and (bytes_eq x) a ≡ true → is_some_and (bytes_eq x) (either_name a b) ≡ true
first_name x None b h = cc
first_name x (Some y) b h = h

guess_name : (x : List ℕ) (s : Stmt)
    → is_some_and (bytes_eq x) (name_of (parts_of s).guess) ≡ true
    → is_some_and (bytes_eq x) (either_name (name_of (parts_of s).variable) (name_of (parts_of s).guess)) ≡ true
guess_name x (SpecCall s g args) h = h
guess_name x (Separator _) h = cc
guess_name x (CombRead _ _ _) h = cc
guess_name x (Bind _ _ _) h = cc
guess_name x (DelayedRead _ _ _) h = cc
guess_name x (Write _ _ _) h = cc
guess_name x (Reserve _ _ _) h = cc
guess_name x (Block _ _) h = cc
guess_name x (Release _ _) h = cc
guess_name x (If _ _ _ _) h = cc
guess_name x (Call _ _) h = cc
guess_name x (Verify _ _ _) h = cc
guess_name x (Update _ _ _) h = cc
guess_name x (SpecCheck _) h = cc
guess_name x (SpecBarrier _) h = cc

-- a place that defines what is used has its name
names_it : (u : Use) (y : Place) → defines_use u y ≡ true → is_some_and (bytes_eq (name_used u)) (name_at y) ≡ true
names_it (OfVariable x) (Parameter a) h = h
names_it (OfVariable x) (Memory m) h = cc
names_it (OfVariable x) (Statement s bs) h = first_name x _ _ h
names_it (OfVariable x) (End s) h = cc
names_it (OfVariable x) (StartClause s) h = cc
names_it (OfMemory x) (Parameter a) h = cc
names_it (OfMemory x) (Memory m) h = h
names_it (OfMemory x) (Statement s bs) h = cc
names_it (OfMemory x) (End s) h = cc
names_it (OfMemory x) (StartClause s) h = cc
names_it (OfGuess x) (Parameter a) h = cc
names_it (OfGuess x) (Memory m) h = cc
names_it (OfGuess x) (Statement s bs) h = guess_name x s h
names_it (OfGuess x) (End s) h = cc
names_it (OfGuess x) (StartClause s) h = cc

some_named : (u : Use) (before : List Place)
    → list_any (defines_use u) before ≡ true
    → list_any (λ d. is_some_and (bytes_eq (name_used u)) (name_at d)) before ≡ true
some_named u [] h = h
some_named u (d ∷ ds) h =
    ⊎_elim (λ a. or_left _ _ (names_it u d a)) (λ b. or_right _ _ (some_named u ds b)) (or_cases (defines_use u d) (list_any (defines_use u) ds) h)

taken_twice : (p : Pipe) (u : Use) (before : List Place) (y : Place)
    → list_any (defines_use u) before ≡ true → defines_use u y ≡ true → breaks_n2 p before y ≡ true
taken_twice p u before y h e = at (name_at y) (names_it u y e)
  where
    at : (o : Option (List ℕ)) → is_some_and (bytes_eq (name_used u)) o ≡ true → is_some_and (is_taken_name p before) o ≡ true
    at None k = cc
    at (Some x) k =
        or_right _ _
        (subst (λ n. list_any (λ d. is_some_and (bytes_eq n) (name_at d)) before ≡ true) ((bytes_eq-Decides (name_used u) x).0 k) (some_named u before h))

once : (p : Pipe) (u : Use) (before ys : List Place)
    → broken_line N2 p before ys ≡ None → list_any (defines_use u) before ≡ true → list_any (defines_use u) ys ≡ false
once p u before [] e h = refl
once p u before (y ∷ ys) e h =
    let parts = none_given (breaks_rule N2 p before y) (line_of y) (broken_line N2 p (before ++ y ∷ []) ys) e in
    let others = list_any-append (defines_use u) before (y ∷ []) ∙ or_left _ _ h in
    ap₂ (λ a b. a || b)
    (false_from_ne_true _ (λ d. both_ways (breaks_n2 p before y) parts.0 (taken_twice p u before y h d)))
    (once p u (before ++ y ∷ []) ys parts.1 others)

-- none after the first
later_none : (p : Pipe) (u : Use) (before ds : List Place) (d : ℕ)
    → broken_line N2 p before ds ≡ None → first_where (defines_use u) ds ≡ Some d
    → list_any (defines_use u) (drop (suc d) ds) ≡ false
later_none p u before [] d e f = refl
later_none p u before (y ∷ ys) zero e f =
    let parts = none_given (breaks_rule N2 p before y) (line_of y) (broken_line N2 p (before ++ y ∷ []) ys) e in
    let here = zero_first (defines_use u y) (first_where (defines_use u) ys) f in
    once p u (before ++ y ∷ []) ys parts.1 (list_any-append (defines_use u) before (y ∷ []) ∙ or_right _ _ (or_left _ _ here))
later_none p u before (y ∷ ys) (suc d) e f =
    let parts = none_given (breaks_rule N2 p before y) (line_of y) (broken_line N2 p (before ++ y ∷ []) ys) e in
    later_none p u (before ++ y ∷ []) ys d parts.1 (later_first (defines_use u y) (first_where (defines_use u) ys) d f).1

-- of the first places alone
none_taken : (r : Rule) (p : Pipe) (before xs : List Place) (k : ℕ)
    → broken_line r p before xs ≡ None → broken_line r p before (take k xs) ≡ None
none_taken r p before [] zero e = refl
none_taken r p before [] (suc k) e = refl
none_taken r p before (x ∷ xs) zero e = refl
none_taken r p before (x ∷ xs) (suc k) e =
    let parts = none_given (breaks_rule r p before x) (line_of x) (broken_line r p (before ++ x ∷ []) xs) e in
    ap₂ (λ b o. if b then Some (line_of x) else o) parts.0 (none_taken r p (before ++ x ∷ []) xs k parts.1)

-- where no place breaks N2, no place after the first definition of what is used defines it again
pub only_one : (p : Pipe) (u : Use) (xs : List Place) (k d : ℕ)
    → broken_line N2 p [] xs ≡ None → first_where (defines_use u) (take k xs) ≡ Some d
    → list_any (defines_use u) (drop (suc d) (take k xs)) ≡ false
only_one p u xs k d e f = later_none p u [] (take k xs) d (none_taken N2 p [] xs k e) f
