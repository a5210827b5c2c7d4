-- How the parts of a compiled netlist are established: registers, constants, conditions, values, looks.
use Rattle.std.proofs.Common.{◌≡◌, refl, sym, ap, ap₂, ◌∙◌, subst, ℕ, ◌<◌, Bool, true, false, ◌||◌, List, [], ◌∷◌}
use Rattle.std.specs.Prelude.{Option, Some, if◌then◌else◌, slice_index, slice_index_or, ◌^◌}
use Rattle.std.proofs.lemmas.List.{get_or-map}
use Rattle.std.proofs.lemmas.Bool.{false≢true, or_left, or_right}
use Rattle.pdl_word.specs.Words as words
use Rattle.pdl_word.specs.Words.{bit}
use Rattle.pdl_semantics.specs.Flat.{Expr, Constant, Variable, Slice, Not, Binary, Cat, LessSigned, ZeroExtend, SignExtend, Choose, Pipe, operator_value, value_of}
use Rattle.pdl_semantics.specs.Stages.{mem_at}
use Rattle.pdl_net.specs.declared.Reg.{Reg}
use Rattle.pdl_net.specs.Circuit.{Circuit, State, HasReg, reg_reset, no_reg}
use Rattle.pdl_net.specs.Signal.{Signal, const_value, reg_value, const_signal, reg_signal, mux_signal}
use Rattle.pdl_net.specs.Meaning.{next_signal}
use Rattle.pdl_net.proofs.Keeps.{next_reg}
use Rattle.pdl_lockapi.specs.declared.Kind.TheVariants as look_kind
use Rattle.pdl_lockapi.specs.Lock.{look_ready}
use Rattle.pdl_lockapi.specs.Laws.{FitsIn, LookLaw}
use Rattle.pdl_law_parts.specs.Lives.{uses_var}
use Rattle.pdl_law_parts.specs.Walk.{Locks, is_locked, is_on, look_of, ThroughLock, IsWord}
use Rattle.pdl_law_parts.specs.Views.{Comer, first_coming}
use Rattle.pdl_law_parts.specs.Compiled.{Becomes, StartsAs}
use Rattle.pdl_law_parts.proofs.Signals.{mux_by}

-- REGISTERS AND CONSTANTS

-- a register becomes what it takes next
pub becomes_reg : (c : Circuit) (w r : ℕ) (f : Signal) → HasReg c r → next_signal c r ≡ f → Becomes c (reg_signal w r) f
unfolding reg_value
becomes_reg c w r f h e s t suits regs = ap (λ l. slice_index l r) regs ∙ next_reg c s r h ∙ ap (λ (g : Signal). g.value s) e

-- a register starts as its reset value
pub starts_reg : (c : Circuit) (w r : ℕ) → HasReg c r → StartsAs c (reg_signal w r) (reg_reset c r)
unfolding HasReg reg_reset reg_value
starts_reg c w r h s regs = ap (λ l. slice_index l r) regs ∙ get_or-map (λ (g : Reg). g.reset) c.regs r no_reg 0 h

-- what all bring alike stays, so it needs no register: as zero of a variable that is nowhere bound before
abbrev pub AllBring : (Comer → Signal) → ℕ → List Comer → Type 0
AllBring of v [] = Unit {0}
AllBring of v (o ∷ os) = ((s : State) → (of o).value s ≡ v) × AllBring of v os

picked_same : (of : Comer → Signal) (v : ℕ) (os : List Comer) (f : Signal) (s : State) → AllBring of v os
    → f.value s ≡ v → (first_coming of os f).value s ≡ v
picked_same of v [] f s h e = e
picked_same of v (o ∷ os) f s h e = mux_by s o.comes (of o) (first_coming of os f) ∙ at (is_on o.comes s) (picked_same of v os f s h.1 e)
  where
    at : (b : Bool) → (first_coming of os f).value s ≡ v → (if b then (of o).value s else (first_coming of os f).value s) ≡ v
    at true g = h.0 s
    at false g = g

-- a constant becomes what the first comer brings, where all that may come bring its value
pub becomes_const : (c : Circuit) (w v : ℕ) (of : Comer → Signal) (os : List Comer) → AllBring of v os
    → Becomes c (const_signal w v) (first_coming of os (const_signal w v))
unfolding const_value
becomes_const c w v of os h s t suits regs = sym (picked_same of v os (const_signal w v) s h refl)

-- a constant starts as its value
pub starts_const : (c : Circuit) (w v : ℕ) → StartsAs c (const_signal w v) v
unfolding const_value
starts_const c w v s regs = refl

-- GUARDS

-- VALUES

-- a value depends on the variables that its expression uses
pub value_agrees : (e : Expr) (env other : List ℕ)
    → ((x : ℕ) → uses_var e x ≡ true → slice_index env x ≡ slice_index other x) → value_of e env ≡ value_of e other
value_agrees (Constant w v) env other h = refl
value_agrees (Variable x) env other h = h x (Rattle.std.proofs.Common.eq-eqb x x refl)
value_agrees (Slice x high low) env other h = ap (words.slice high low) (h x (Rattle.std.proofs.Common.eq-eqb x x refl))
value_agrees (Not w a) env other h = ap (words.complement w) (value_agrees a env other h)
value_agrees (Binary op w a b) env other h =
    ap₂ (operator_value op w) (value_agrees a env other (λ x u. h x (or_left (uses_var a x) (uses_var b x) u)))
    (value_agrees b env other (λ x u. h x (or_right (uses_var a x) (uses_var b x) u)))
value_agrees (Cat a w b) env other h =
    ap₂ (words.cat w) (value_agrees a env other (λ x u. h x (or_left (uses_var a x) (uses_var b x) u)))
    (value_agrees b env other (λ x u. h x (or_right (uses_var a x) (uses_var b x) u)))
value_agrees (LessSigned w a b) env other h =
    ap₂ (words.lts w) (value_agrees a env other (λ x u. h x (or_left (uses_var a x) (uses_var b x) u)))
    (value_agrees b env other (λ x u. h x (or_right (uses_var a x) (uses_var b x) u)))
value_agrees (ZeroExtend wide a) env other h = ap words.zext (value_agrees a env other h)
value_agrees (SignExtend w wide a) env other h = ap (words.sext w wide) (value_agrees a env other h)
value_agrees (Choose c a b) env other h =
    rw (
      value_agrees c env other (λ x u. h x (or_left (uses_var c x) (uses_var a x || uses_var b x) u)),
      value_agrees a env other (λ x u. h x (or_right (uses_var c x) (uses_var a x || uses_var b x) (or_left (uses_var a x) (uses_var b x) u))),
      value_agrees b env other (λ x u. h x (or_right (uses_var c x) (uses_var a x || uses_var b x) (or_right (uses_var a x) (uses_var b x) u))),
    ) refl

-- LOOKS

-- a block whose kind is the same wherever it is on the path takes one look
pub block_one : (ls : Locks) (m : ℕ) (addr ticket f held : Signal) (value : Option Signal) (u : Bool) (s : State)
    → LookLaw (ls.stands m) (ls.kind m) (ls.bits m) (look_of u) addr ticket f value → is_on held s ≡ u
    → ThroughLock ls m ticket s (λ x t. f.value s ≡ bit (look_ready (ls.kind m) (look_of (is_on held s)) x t (addr.value s)))
block_one ls m addr ticket f held value u s law e x t stands covered holds =
    law.answers s x t stands covered holds ∙ ap (λ b. bit (look_ready (ls.kind m) (look_of b) x t (addr.value s))) (sym e)

-- a block whose kind depends on the path takes two looks
pub block_two : (ls : Locks) (m : ℕ) (addr ticket f g held : Signal) (v u : Option Signal) (s : State)
    → LookLaw (ls.stands m) (ls.kind m) (ls.bits m) look_kind.W addr ticket f v
    → LookLaw (ls.stands m) (ls.kind m) (ls.bits m) look_kind.R addr ticket g u
    → ThroughLock ls m ticket s (λ x t. (mux_signal held f g).value s ≡ bit (look_ready (ls.kind m) (look_of (is_on held s)) x t (addr.value s)))
block_two ls m addr ticket f g held v u s write read x t stands covered holds = mux_by s held f g ∙ at (is_on held s)
  where
    at : (b : Bool) → (if b then f.value s else g.value s) ≡ bit (look_ready (ls.kind m) (look_of b) x t (addr.value s))
    at true = write.answers s x t stands covered holds
    at false = read.answers s x t stands covered holds

-- a read through a look gives the word of an address that fits
pub word_locked : (p : Pipe) (ls : Locks) (m : ℕ) (addr ticket ready f : Signal) (s : State)
    → is_locked p m ≡ true → LookLaw (ls.stands m) (ls.kind m) (ls.bits m) look_kind.R addr ticket ready (Some f)
    → 2 ^ addr.width ≡ (mem_at p m).depth → FitsIn addr s → IsWord p ls m addr ticket f s
word_locked p ls m addr ticket ready f s e law deep fits = record {
  reach = subst (λ n. addr.value s < n) deep fits;
  plain = λ g. absurd (false≢true (sym g ∙ e));
  locked = λ g x t stands covered holds looked. law.gives f refl s x t stands covered holds fits looked;
}

-- a read of a memory without lock gives the word of its array
pub word_plain : (p : Pipe) (ls : Locks) (m : ℕ) (addr ticket f : Signal) (s : State)
    → is_locked p m ≡ false → f.value s ≡ slice_index (slice_index_or s.arrays (ls.array m) []) (addr.value s)
    → 2 ^ addr.width ≡ (mem_at p m).depth → FitsIn addr s → IsWord p ls m addr ticket f s
word_plain p ls m addr ticket f s e word deep fits = record {
  reach = subst (λ n. addr.value s < n) deep fits;
  plain = λ g. word;
  locked = λ g. absurd (false≢true (sym e ∙ g));
}
