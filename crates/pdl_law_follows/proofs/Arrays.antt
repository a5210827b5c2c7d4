-- The arrays of a netlist that is made of a pipe: one for each memory that answers at once, with its name and sizes, written only where the memory has a lock.
use Rattle.std.proofs.Common.{◌≡◌, ◌≢◌, ◌⊎◌, inl, inr, ℕ, suc, ◌*◌, ◌^◌, ◌≤◌, Bool, true, false, List, [], ◌∷◌, ◌++◌, map, All, Option, Some, None, refl, sym, ap, ap₂, ◌∙◌, subst, arith}
use Rattle.std.specs.Prelude.{if◌then◌else◌, Contains, filter}
use Rattle.std.specs.Option.{is_some}
use Rattle.std.specs.List.{AllByRecursion}
use Rattle.std.proofs.lemmas.Bool.{false≢true}
use Rattle.std.proofs.lemmas.List.Elements.{All-from_recursion, recursion_from_All}
use Rattle.pdl_kit.specs.declared.mem_info.MemInfo.{MemInfo}
use Rattle.pdl_semantics.specs.Tree.{LockDecl, Mem}
use Rattle.pdl_semantics.specs.Flat.{is_delayed}
use Rattle.pdl_rules.specs.Typed.{AreDistinct}
use Rattle.pdl_rules.specs.Memories.{info_of}
use Rattle.pdl_rules.specs.Widths.{address_bits}
use Rattle.pdl_net.specs.declared.Array.{Array}
use Rattle.pdl_net.specs.Circuit.{Shape, shape_of}
use Rattle.pdl_net.specs.Pipe.{PortMem, IsPipeArray, comb_info, delayed_info}
use Rattle.pdl_lockapi.proofs.LockKinds.{once_or_twice}
use Rattle.pdl_law_parts.specs.DeclaredMems.{port_mem, locked_of, array_words, shape_of_mem}
use Rattle.pdl_law_parts.proofs.WellFormedNames.{Among, among_one}
use Rattle.pdl_law_parts.proofs.WellFormedPorts.{locked_named, found}
use Rattle.pdl_law_parts.proofs.WellFormedMems.{Reaches, IsAddressed}
use Rattle.pdl_law_parts.proofs.WellFormedArrays.{locked_all, locked_at, shallow, info_same, info_if}
use Rattle.pdl_law_follows.specs.Memories.{answers_late, delayed_of, comb_of}
use Rattle.pdl_law_follows.proofs.Memories.{among_some, some_among}

-- ---- delayed memories

-- what holds of each of some memories
some_rec : (P : PortMem → Type 0) (test : Mem → Bool) (ms : List Mem)
    → ((m : Mem) → Among m ms → test m ≡ true → P (port_mem false m)) → AllByRecursion P (map (port_mem false) (filter test ms))
some_rec P test [] h = tt
some_rec P test (m ∷ ms) h = at (test m) refl (some_rec P test ms (λ k a t. h k (inr a) t))
  where
    at : (b : Bool) → test m ≡ b → AllByRecursion P (map (port_mem false) (filter test ms))
        → AllByRecursion P (map (port_mem false) (if b then m ∷ filter test ms else filter test ms))
    at true e x = (h m (inl refl) e, x)
    at false e x = x

-- what holds of each delayed memory, as ports tell it, holds of all of them
pub delayed_all : (P : PortMem → Type 0) (ms : List Mem)
    → ((m : Mem) → Among m ms → is_delayed m.kind ≡ true → P (port_mem false m)) → All P (map (port_mem false) (delayed_of ms))
delayed_all P ms h = All-from_recursion P (map (port_mem false) (delayed_of ms)) (some_rec P answers_late ms h)

-- one of these holds what all do
all_contained : {X : Type 0} (P : X → Type 0) (xs : List X) (x : X) → All P xs → Contains xs x → P x
all_contained P xs x h c = subst P c.2 (h c.0 x c.1)

-- a memory's name is one of theirs
contained : (ms : List Mem) (m : Mem) → Among m ms → Contains (map (λ (d : PortMem). d.name) (map (port_mem false) ms)) m.name.name
contained [] m a = absurd a
contained (x ∷ xs) m (inl s) = (0, (omega arith), ap (λ (y : Mem). y.name.name) s)
contained (x ∷ xs) m (inr a) = let r = contained xs m a in let l = r.1 in (suc r.0, (omega (arith, l)), r.2)

-- the name of a delayed memory is one of the delayed ones', as ports tell them
pub delayed_contained : (ms : List Mem) (m : Mem) → Among m ms → is_delayed m.kind ≡ true
    → Contains (map (λ (d : PortMem). d.name) (map (port_mem false) (delayed_of ms))) m.name.name
delayed_contained ms m a d = contained (delayed_of ms) m (some_among answers_late ms m a d)

-- ---- the array of a memory

-- an array of a memory that answers at once is one of a pipe
pub pipe_array : (twice : ℕ → Bool) (ms : List Mem) (a : Array) (m : Mem) → AreDistinct ms → ((y : Mem) → Among y ms → Reaches y)
    → IsAddressed m → Among m ms → is_delayed m.kind ≡ false
    → shape_of a ≡ shape_of_mem m → IsPipeArray (map (port_mem false) (delayed_of ms)) (locked_of twice 0 ms) a
pipe_array twice ms a m distinct reach size among at_once shape = record {
  inside = delayed_all (λ l. l.name ≢ a.name) ms (λ y h d e. false≢true (sym at_once ∙ ap (λ (x : Mem). is_delayed x.kind) (sym (same y h e)) ∙ d));
  width = locked_all (λ l. l.name ≡ a.name → a.width ≡ l.width) twice 0 ms (λ t y h e. width ∙ ap (λ (x : Mem). x.width.value) (sym (same y h e)));
  depth =
      locked_all (λ l. l.name ≡ a.name → (a.depth ≡ 2 ^ l.bits) ⊎ (a.depth ≡ 2 * 2 ^ l.bits)) twice 0 ms
      (λ t y h e. deep m.lock (2 ^ (port_mem t y).bits) (sym (reach y h ∙ ap (λ (x : Mem). x.depth.value) (same y h e))) depth);
  unlocked = λ none. let e = lockless (is_some m.lock) refl none in
      subst (λ n. n ≤ 65536) (sym (depth ∙ shallow m.lock m.depth.value e)) size.shallow;
}
  where
    name : a.name ≡ m.name.name
    name = ap (λ (s : Shape). s.name) shape

    width : a.width ≡ m.width.value
    width = ap (λ (s : Shape). s.width) shape

    depth : a.depth ≡ array_words m.lock m.depth.value
    depth = ap (λ (s : Shape). s.depth) shape

    deep : (l : Option LockDecl) (n : ℕ) → m.depth.value ≡ n → a.depth ≡ array_words l m.depth.value → (a.depth ≡ n) ⊎ (a.depth ≡ 2 * n)
    deep None n e f = inl (f ∙ e)
    deep (Some l) n e f = elim (once_or_twice l.kind m.depth.value) [
      | inl g ↦ inl (f ∙ g ∙ e)
      | inr g ↦ inr (f ∙ g ∙ ap (λ i. 2 * i) e)
    ]

    same : (y : Mem) → Among y ms → y.name.name ≡ a.name → y ≡ m
    same y h e = among_one ms distinct y m h among (e ∙ name)

    lockless : (b : Bool) → is_some m.lock ≡ b → All (λ l. l.name ≢ a.name) (locked_of twice 0 ms) → is_some m.lock ≡ false
    lockless true e none =
        absurd
        ((locked_at (λ l. l.name ≢ a.name) twice 0 ms m among e (recursion_from_All (λ l. l.name ≢ a.name) (locked_of twice 0 ms) none)).1 (sym name))
    lockless false e none = e

-- words and addresses of two memories are as wide
abbrev AreAlike : PortMem → PortMem → Type 0
AreAlike x y = (x.width ≡ y.width) × (x.bits ≡ y.bits)

-- two memories of one name have words and addresses of the same widths
pub agree_all : (twice : ℕ → Bool) (ms : List Mem) → AreDistinct ms → (d l : PortMem) → Contains (map (port_mem false) (delayed_of ms)) d
    → Contains (locked_of twice 0 ms) l → d.name ≡ l.name → (d.width ≡ l.width) × (d.bits ≡ l.bits)
agree_all twice ms distinct d l h i e =
    all_contained (λ (x : PortMem). (y : PortMem) → Contains (locked_of twice 0 ms) y → x.name ≡ y.name → AreAlike x y) (map (port_mem false) (delayed_of ms)) d
    (delayed_all (λ (x : PortMem). (y : PortMem) → Contains (locked_of twice 0 ms) y → x.name ≡ y.name → AreAlike x y) ms (λ m a t. with_locked m a)) h l i e
  where
    with_locked : (m : Mem) → Among m ms → (y : PortMem) → Contains (locked_of twice 0 ms) y → m.name.name ≡ y.name → AreAlike (port_mem false m) y
    with_locked m a y c =
        all_contained (λ (z : PortMem). m.name.name ≡ z.name → AreAlike (port_mem false m) z)
        (locked_of twice 0 ms) y
        (locked_all (λ (z : PortMem). m.name.name ≡ z.name → AreAlike (port_mem false m) z) twice 0 ms
        (λ t k b f. let s = among_one ms distinct m k a b f in
        (ap (λ (x : Mem). x.width.value) s, ap (λ (x : Mem). address_bits x.depth.value) s))) c

-- ---- as they are told

delayed_told : (ms : List Mem) → ((m : Mem) → Among m ms → Reaches m)
    → ((m : Mem) → Among m ms → is_delayed m.kind ≡ true) → map info_of ms ≡ map delayed_info (map (port_mem false) ms)
delayed_told [] r d = refl
delayed_told (m ∷ ms) r d =
    ap₂ (λ (x : MemInfo) xs. x ∷ xs)
    (info_same m.name.name m.name.name m.width.value m.width.value m.depth.value _ (is_delayed m.kind) true refl refl (sym (r m (inl refl))) (d m (inl refl)))
    (delayed_told ms (λ k a. r k (inr a)) (λ k a. d k (inr a)))

infos_from : (twice : ℕ → Bool) (all : List Mem) (ars : List Array) (ms : List Mem) → AreDistinct all
    → ((m : Mem) → Among m all → Reaches m) → ((m : Mem) → Among m ms → is_delayed m.kind ≡ false)
    → ((m : Mem) → Among m ms → Among m all) → map shape_of ars ≡ map shape_of_mem ms
    → map info_of ms ≡ map (λ (a : Array). comb_info a (locked_named twice 0 all a.name)) ars
infos_from twice all [] [] h r d i e = refl
infos_from twice all [] (m ∷ ms) h r d i e = absurd (cc e)
infos_from twice all (a ∷ ars) [] h r d i e = absurd (cc e)
infos_from twice all (a ∷ ars) (m ∷ ms) h r d i e =
    let here : shape_of a ≡ shape_of_mem m = cc e in
    let rest : map shape_of ars ≡ map shape_of_mem ms = cc e in
    let am = i m (inl refl) in
    let told = found twice 0 all h m am in
    let one : info_of m ≡ comb_info a (locked_named twice 0 all a.name) =
    info_if (is_some m.lock) told.0 a m refl here (r m am) (d m (inl refl))
    ∙ ap (comb_info a) (sym told.1 ∙ ap (locked_named twice 0 all) (sym (ap (λ (s : Shape). s.name) here))) in
    ap₂ (λ (x : MemInfo) xs. x ∷ xs) one (infos_from twice all ars ms h r (λ y g. d y (inr g)) (λ y g. i y (inr g)) rest)

-- the memories are what the ports and arrays tell
pub infos_same : (twice : ℕ → Bool) (ars : List Array) (ms : List Mem) → AreDistinct ms → ((m : Mem) → Among m ms → Reaches m)
    → map shape_of ars ≡ map shape_of_mem (comb_of ms)
    → map info_of (delayed_of ms) ++ map info_of (comb_of ms) ≡ map delayed_info (map (port_mem false) (delayed_of ms))
    ++ map (λ (a : Array). comb_info a (locked_named twice 0 ms a.name)) ars
infos_same twice ars ms h r e =
    ap₂ (λ (xs ys : List MemInfo). xs ++ ys)
    (delayed_told (delayed_of ms) (λ m a. r m (among_some answers_late ms m a).0) (λ m a. (among_some answers_late ms m a).1))
    (infos_from twice ms ars (comb_of ms) h r
    (λ m a. Rattle.pdl_law_follows.proofs.Memories.comb_delayed m (among_some Rattle.pdl_rules.specs.Refusal.answers_at_once ms m a).1)
    (λ m a. (among_some Rattle.pdl_rules.specs.Refusal.answers_at_once ms m a).0) e)
