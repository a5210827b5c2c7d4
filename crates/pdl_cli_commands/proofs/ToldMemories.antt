-- The memories of an accepted source as they are told, in declared order and in a netlist's: their names differ and are short, and their words have 1 to widest bits.
use Rattle.std.proofs.Common.{◌≡◌, ◌≢◌, ℕ, zero, suc, [], ◌∷◌, ◌++◌, ◌+◌, ◌≤◌, ◌<◌, false, cond, List, length, map, get_or, All, AllPairs, append-nil, refl, sym, ap, ◌∙◌, subst, inl, inr, bytes_eq, arith}
use Rattle.std.specs.Prelude.{filter, count_by}
use Rattle.std.specs.List.{AllByRecursion}
use Rattle.std.proofs.lemmas.Bool.{or_parts}
use Rattle.std.proofs.lemmas.List.{length-map}
use Rattle.std.proofs.lemmas.List.Sums.{sum_by-cons, count_by-le-length}
use Rattle.std.proofs.lemmas.List.Elements.{All-append, All-from_recursion, filter-append}
use Rattle.pdl_kit.specs.declared.mem_info.MemInfo.{MemInfo}
use Rattle.pdl_semantics.specs.Tree.{Mem, Pipe}
use Rattle.pdl_semantics.specs.Flat
use Rattle.pdl_semantics.specs.Flatten.{flat, flat_lock, mems_of}
use Rattle.pdl_syntax_grammar.specs.Text.{IsText}
use Rattle.pdl_rules.specs.Memories.{infos_of, info_of}
use Rattle.pdl_rules.specs.Refusal.{KeepsRules, answers_at_once}
use Rattle.pdl_rules.specs.Typed.{AreDistinct, is_memory}
use Rattle.pdl_net.specs.declared.Netlist.{Netlist}
use Rattle.pdl_net.specs.Run.{delayed_mems}
use Rattle.pdl_law_parts.specs.Places.{delayed_count}
use Rattle.pdl_law_parts.proofs.WellFormedNames.{Among, name_apart}
use Rattle.pdl_law_parts.proofs.WellFormedMems.{sized_among, few_mems}
use Rattle.pdl_law_follows.proofs.Places as places
use Rattle.pdl_law_follows.specs.Memories.{answers_late, delayed_of, comb_of, net_infos}
use Rattle.pdl_law_follows.specs.Follows.{Follows}
use Rattle.pdl_law_follows.proofs.Memories.{among_some, some_count, told_delayed, all_told, none_told}
use Rattle.pdl_law_follows.proofs.FollowsMade.{declared}
use Rattle.pdl_cli_commands.proofs.ShortNames.{HaveShortNames, short_names}
use Rattle.pdl_word.specs.Words.{widest}

-- ---- names that differ

infos_none : (n : List ℕ) (ms : List Mem)
    → is_memory ms n ≡ false → (j : ℕ) (d : MemInfo) → j < length (infos_of ms) → n ≢ (get_or (infos_of ms) j d).name
infos_none n [] e j d l s = absurd (omega arith)
infos_none n (m ∷ ms) e zero d l s = name_apart m.name.name n (or_parts (bytes_eq m.name.name n) (is_memory ms n) e).0 (sym s)
infos_none n (m ∷ ms) e (suc j) d l s = infos_none n ms (or_parts (bytes_eq m.name.name n) (is_memory ms n) e).1 j d (omega arith) s

infos_differ : (ms : List Mem) → AreDistinct ms → AllPairs (λ (a b : MemInfo). a.name ≢ b.name) (infos_of ms)
infos_differ [] h i j d l k = absurd (omega arith)
infos_differ (m ∷ ms) h zero zero d l k = absurd (omega arith)
infos_differ (m ∷ ms) h zero (suc j) d l k = infos_none m.name.name ms h.0 j d (omega arith)
infos_differ (m ∷ ms) h (suc i) zero d l k = absurd (omega arith)
infos_differ (m ∷ ms) h (suc i) (suc j) d l k = infos_differ ms h.1 i j d (omega arith) (omega arith)

-- no two memories of a pipe that keeps the rules have the same name
pub names_differ : (p : Pipe) (ms : List MemInfo) → KeepsRules p → ms ≡ infos_of p.mems → AllPairs (λ a b. a.name ≢ b.name) ms
names_differ p ms kept e = subst (AllPairs (λ (a b : MemInfo). a.name ≢ b.name)) (sym e) (infos_differ p.mems (declared p kept).distinct)

-- ---- what holds of each

-- what holds of each memory holds of it as it is told
each_told : (P : MemInfo → Type 0) (ms : List Mem) → ((m : Mem) → Among m ms → P (info_of m)) → AllByRecursion P (map info_of ms)
each_told P [] h = tt
each_told P (m ∷ ms) h = (h m (inl refl), each_told P ms (λ k a. h k (inr a)))

-- what holds of each declared memory as it is told holds of all memories that are told
pub told_all : (P : MemInfo → Type 0) (ms : List Mem) → ((m : Mem) → Among m ms → P (info_of m)) → All P (map info_of ms)
told_all P ms h = All-from_recursion P (map info_of ms) (each_told P ms h)

-- of those that a netlist has too
told_both : (P : MemInfo → Type 0) (ms : List Mem) → ((m : Mem) → Among m ms → P (info_of m)) → All P (net_infos ms)
told_both P ms h =
    All-append P (map info_of (delayed_of ms)) (map info_of (comb_of ms))
    (told_all P (delayed_of ms) (λ m a. h m (among_some answers_late ms m a).0))
    (told_all P (comb_of ms) (λ m a. h m (among_some answers_at_once ms m a).0))

-- the words of each memory of a pipe that keeps the rules have at least 1 bit
pub widths_low : (p : Pipe) (ms : List MemInfo) → KeepsRules p → ms ≡ infos_of p.mems → All (λ m. 1 ≤ m.width) ms
widths_low p ms kept e =
    subst (All (λ (m : MemInfo). 1 ≤ m.width)) (sym e) (told_all (λ m. 1 ≤ m.width) p.mems (λ m a. (sized_among p.mems (declared p kept).sized m a).low))

-- the words of each memory of a pipe that keeps the rules have at most widest bits
pub widths_high : (p : Pipe) (ms : List MemInfo) → KeepsRules p → ms ≡ infos_of p.mems → All (λ m. m.width ≤ widest) ms
widths_high p ms kept e =
    subst (All (λ (m : MemInfo). m.width ≤ widest)) (sym e) (told_all (λ m. m.width ≤ widest) p.mems (λ m a. (sized_among p.mems (declared p kept).sized m a).high))

short_one : (ms : List Mem) → HaveShortNames ms → (m : Mem) → Among m ms → length m.name.name ≤ 32
short_one [] h m a = absurd a
short_one (x ∷ ms) h m (inl e) = subst (λ (y : Mem). length y.name.name ≤ 32) e h.0
short_one (x ∷ ms) h m (inr a) = short_one ms h.1 m a

-- the names of the memories of a pipe that keeps the rules are short
pub names_short : (b : List ℕ) (p : Pipe) (ms : List MemInfo) → IsText b p → ms ≡ infos_of p.mems → All (λ m. length m.name ≤ 32) ms
names_short b p ms t e =
    subst (All (λ (m : MemInfo). length m.name ≤ 32)) (sym e) (told_all (λ m. length m.name ≤ 32) p.mems (short_one p.mems (short_names b p t)))

-- ---- of a netlist that follows the pipe

-- the memories of a netlist that follows the pipe of a text have names of at most 32 characters
pub net_names_short : (b : List ℕ) (p : Pipe) (n : Netlist) → IsText b p → Follows p n → All (λ m. length m.name ≤ 32) n.mems
net_names_short b p n t f =
    subst (All (λ (m : MemInfo). length m.name ≤ 32)) (sym f.mems) (told_both (λ m. length m.name ≤ 32) p.mems (short_one p.mems (short_names b p t)))

delayed_told : (ms : List Mem) → filter told_delayed (net_infos ms) ≡ map info_of (delayed_of ms)
delayed_told ms =
    filter-append told_delayed (map info_of (delayed_of ms)) (map info_of (comb_of ms))
    ∙ ap (λ l. filter told_delayed (map info_of (delayed_of ms)) ++ l) (none_told ms)
    ∙ append-nil (filter told_delayed (map info_of (delayed_of ms)))
    ∙ all_told ms

-- as many memories of a netlist that follows a pipe are delayed as of the pipe's
pub delayed_as_many : (p : Pipe) (n : Netlist) → Follows p n → length (delayed_mems n) ≡ delayed_count (flat p)
delayed_as_many p n f =
    ap (λ l. length (filter told_delayed l)) f.mems
    ∙ ap length (delayed_told p.mems)
    ∙ length-map (delayed_of p.mems) info_of
    ∙ some_count answers_late places.answers_late (λ m. refl) p.mems

-- ---- how many are delayed

counted : (ms : List Mem) → count_by (λ (i : MemInfo). i.delayed) (infos_of ms) ≡ count_by (λ (x : Flat.Mem). Flat.is_delayed x.kind) (mems_of ms)
counted [] = refl
counted (m ∷ ms) =
    sum_by-cons (λ (i : MemInfo). cond i.delayed 1 0) (info_of m) (infos_of ms)
    ∙ ap (λ n. cond (Flat.is_delayed m.kind) 1 0 + n) (counted ms)
    ∙ sym
    (sum_by-cons (λ (x : Flat.Mem). cond (Flat.is_delayed x.kind) 1 0)
    (record { width = m.width.value; depth = m.depth.value; kind = m.kind; lock = flat_lock m.lock })
    (mems_of ms))

-- as many of the told memories are delayed as of the flat pipe's
pub told_count : (p : Pipe) → count_by (λ (i : MemInfo). i.delayed) (infos_of p.mems) ≡ delayed_count (flat p)
told_count p = counted p.mems

-- at most 16 memories of a pipe that keeps the rules are delayed
pub few_told : (p : Pipe) → KeepsRules p → count_by (λ (i : MemInfo). i.delayed) (infos_of p.mems) ≤ 16
few_told p kept =
    let most = count_by-le-length (λ (i : MemInfo). i.delayed) (infos_of p.mems) in
    let same : length (infos_of p.mems) ≡ length p.mems = length-map p.mems info_of in
    let few = few_mems p kept in
    omega (arith, most, same, few)
