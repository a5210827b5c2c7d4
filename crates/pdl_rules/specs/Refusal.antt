-- The refusal of a source: of all broken rules the lowest in the order of the rules, and then its lowest place.
use Rattle.std.specs.Prelude.{◌≡◌, ℕ, Bool, true, false, not, ◌&&◌, List, [], ◌∷◌, ◌++◌, if◌then◌else◌, Option, Some, None}
use Rattle.std.specs.List.{list_all}
use Rattle.pdl_kit.specs.declared.rule.Rule.{Rule}
use Rattle.pdl_kit.specs.declared.rule.Rule.TheVariants.{G1, Z1, Z2, Z3, Z4, Z5, Z6, Z7, N1, N2, N3, W1, W2, W3, W4, W5, W6, F1, F2, F3, F4, F5, L1, L2, L3, L4, L5, L6, L7, L8, S1, S2, S3, S4, S5, S6, S7, I1, I2, I3, I4, I5, I6, I7, Y1, Y2, Y3, V1, V2, V3, V4, V5, B1, B2, B3, B4, B5, A1, A2, A3, A4, A5, A6, A7, A8, P1}
use Rattle.pdl_semantics.specs.Tree.{Stmt, Separator, CombRead, Bind, SpecCall, DelayedRead, Write, Reserve, Block, Release, If, Call, Verify, Update, SpecCheck, SpecBarrier, Stmts, Nil, Cons, Mem, Pipe}
use Rattle.pdl_semantics.specs.Flat.{is_delayed}
use Rattle.pdl_rules.specs.Places.{Place, places, line_of}
use Rattle.pdl_rules.specs.Limits.{is_too_long, breaks_z2, breaks_z3, breaks_z4, breaks_z5, breaks_z6, breaks_z7}
use Rattle.pdl_rules.specs.Names.{breaks_n1, breaks_n2, breaks_n3}
use Rattle.pdl_rules.specs.Widths.{breaks_w1, breaks_w2, breaks_w3, breaks_w4, breaks_w5, breaks_w6}
use Rattle.pdl_rules.specs.Locks.{breaks_f5, breaks_l1, breaks_l3, breaks_l4, breaks_l5, breaks_l6, breaks_l7}
use Rattle.pdl_rules.specs.Stages.{breaks_l2, breaks_l8}
use Rattle.pdl_rules.specs.Forks.{breaks_f1, breaks_f2, breaks_f3, breaks_f4}
use Rattle.pdl_rules.specs.Calls.{breaks_s1}
use Rattle.pdl_rules.specs.Speculation.{breaks_s2, breaks_s3, breaks_s4, breaks_s5, breaks_s6, breaks_s7}
use Rattle.pdl_rules.specs.Advice.{breaks_p1}

-- whether the place, with these places before it in the text, breaks a rule; no tree breaks the rules of bytes and tokens, G1 and Z1, nor those of other files
abbrev pub breaks_rule : Rule → Pipe → List Place → Place → Bool
breaks_rule G1 p before x = false
breaks_rule Z1 p before x = false
breaks_rule Z2 p before x = breaks_z2 before x
breaks_rule Z3 p before x = breaks_z3 before x
breaks_rule Z4 p before x = breaks_z4 before x
breaks_rule Z5 p before x = breaks_z5 before x
breaks_rule Z6 p before x = breaks_z6 before x
breaks_rule Z7 p before x = breaks_z7 x
breaks_rule N1 p before x = breaks_n1 p x
breaks_rule N2 p before x = breaks_n2 p before x
breaks_rule N3 p before x = breaks_n3 p before x
breaks_rule W1 p before x = breaks_w1 p x
breaks_rule W2 p before x = breaks_w2 p x
breaks_rule W3 p before x = breaks_w3 p x
breaks_rule W4 p before x = breaks_w4 p x
breaks_rule W5 p before x = breaks_w5 p x
breaks_rule W6 p before x = breaks_w6 p x
breaks_rule F1 p before x = breaks_f1 x
breaks_rule F2 p before x = breaks_f2 p before x
breaks_rule F3 p before x = breaks_f3 p before x
breaks_rule F4 p before x = breaks_f4 p x
breaks_rule F5 p before x = breaks_f5 p x
breaks_rule L1 p before x = breaks_l1 p before x
breaks_rule L2 p before x = breaks_l2 before x
breaks_rule L3 p before x = breaks_l3 p before x
breaks_rule L4 p before x = breaks_l4 p before x
breaks_rule L5 p before x = breaks_l5 p before x
breaks_rule L6 p before x = breaks_l6 p before x
breaks_rule L7 p before x = breaks_l7 p before x
breaks_rule L8 p before x = breaks_l8 p before x
breaks_rule S1 p before x = breaks_s1 p before x
breaks_rule S2 p before x = breaks_s2 p before x
breaks_rule S3 p before x = breaks_s3 before x
breaks_rule S4 p before x = breaks_s4 p before x
breaks_rule S5 p before x = breaks_s5 p before x
breaks_rule S6 p before x = breaks_s6 p before x
breaks_rule S7 p before x = breaks_s7 before x
breaks_rule P1 p before x = breaks_p1 p x
breaks_rule I1 p before x = false
breaks_rule I2 p before x = false
breaks_rule I3 p before x = false
breaks_rule I4 p before x = false
breaks_rule I5 p before x = false
breaks_rule I6 p before x = false
breaks_rule I7 p before x = false
breaks_rule Y1 p before x = false
breaks_rule Y2 p before x = false
breaks_rule Y3 p before x = false
breaks_rule V1 p before x = false
breaks_rule V2 p before x = false
breaks_rule V3 p before x = false
breaks_rule V4 p before x = false
breaks_rule V5 p before x = false
breaks_rule B1 p before x = false
breaks_rule B2 p before x = false
breaks_rule B3 p before x = false
breaks_rule B4 p before x = false
breaks_rule B5 p before x = false
breaks_rule A1 p before x = false
breaks_rule A2 p before x = false
breaks_rule A3 p before x = false
breaks_rule A4 p before x = false
breaks_rule A5 p before x = false
breaks_rule A6 p before x = false
breaks_rule A7 p before x = false
breaks_rule A8 p before x = false

-- the rules of the tree in their order
abbrev pub limits : List Rule
limits = Z2 ∷ Z3 ∷ Z4 ∷ Z5 ∷ Z6 ∷ Z7 ∷ []

-- the rules of the tree that come after the limits, in their order
abbrev pub after_limits : List Rule
after_limits =
    N1 ∷ N2 ∷ N3 ∷ W1 ∷ W2 ∷ W3 ∷ W4 ∷ W5 ∷ W6 ∷ F1 ∷ F2 ∷ F3 ∷ F4 ∷ F5 ∷ L1 ∷ L2 ∷ L3 ∷ L4 ∷ L5 ∷ L6 ∷ L7 ∷ L8 ∷ S1 ∷ S2 ∷ S3 ∷ S4 ∷ S5 ∷ S6 ∷ S7 ∷ P1 ∷ []

-- a rule that is broken, and the line of its lowest place
pub record Refused : Type 0 where
  pub rule : Rule
  pub line : ℕ

-- the line of the first of these places that breaks the rule
abbrev pub broken_line : Rule → Pipe → List Place → List Place → Option ℕ
broken_line r p before [] = None
broken_line r p before (x ∷ xs) = if breaks_rule r p before x then Some (line_of x) else broken_line r p (before ++ x ∷ []) xs

-- the refusal by a rule that is broken at a line, and by the later rules where it is not broken
abbrev pub refused_at : Rule → Option ℕ → Option Refused → Option Refused
refused_at r (Some line) later = Some (record { rule = r; line = line })
refused_at r None later = later

-- the first of these rules that is broken, at its lowest place
abbrev pub first_broken : List Rule → Pipe → Option Refused
first_broken [] p = None
first_broken (r ∷ rs) p = refused_at r (broken_line r p [] (places p)) (first_broken rs p)

-- the refusal by all rules
abbrev pub refusal : List ℕ → Pipe → Option Refused
refusal source p =
    if is_too_long source then Some (record { rule = Z1; line = 1 }) else first_broken (limits ++ after_limits) p

-- no place breaks any rule
abbrev pub KeepsRules : Pipe → Type 0
KeepsRules p = (r : Rule) (before : List Place) (x : Place) (later : List Place) → places p ≡ before ++ x ∷ later → breaks_rule r p before x ≡ false

-- ONE STAGE

-- statements of a pipe of one stage without choices, guesses or delayed reads
abbrev pub is_straight : Stmt → Bool
is_straight (Separator _) = false
is_straight (CombRead _ _ _) = true
is_straight (Bind _ _ _) = true
is_straight (SpecCall _ _ _) = false
is_straight (DelayedRead _ _ _) = false
is_straight (Write _ _ _) = true
is_straight (Reserve _ _ _) = true
is_straight (Block _ _) = true
is_straight (Release _ _) = true
is_straight (If _ _ _ _) = false
is_straight (Call _ _) = true
is_straight (Verify _ _ _) = false
is_straight (Update _ _ _) = false
is_straight (SpecCheck _) = false
is_straight (SpecBarrier _) = false

-- whether all statements are those of a pipe of one stage without choices, guesses or delayed reads
abbrev pub all_straight : Stmts → Bool
all_straight Nil = true
all_straight (Cons s ss) = is_straight s && all_straight ss

-- whether a memory answers a read in its own cycle, as a comb one does and an advisory one
abbrev pub answers_at_once : Mem → Bool
answers_at_once m = not (is_delayed m.kind)

-- whether the pipe is of that kind: it has one path
abbrev pub is_one_stage : Pipe → Bool
is_one_stage p = all_straight p.body && list_all answers_at_once p.mems
