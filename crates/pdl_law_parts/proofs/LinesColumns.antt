-- The memories with a commit port are those with a lock, in declared order, and the lines of a cycle are those of all memories.
use Rattle.std.proofs.Common.{◌≡◌, inl, inr, ℕ, zero, suc, Bool, true, false, ◌&&◌, if◌then◌else◌, List, [], ◌∷◌, ◌++◌, map, Some, None, codes, decimal, bytes_eq, refl, sym, ap, ap₂, ◌∙◌, subst}
use Rattle.std.specs.Prelude.{filter_map}
use Rattle.std.specs.List.{cons_option}
use Rattle.std.specs.Option.{is_some}
use Rattle.pdl_kit.specs.declared.mem_info.MemInfo.{MemInfo}
use Rattle.pdl_semantics.specs.Tree.{Mem}
use Rattle.pdl_semantics.specs.Flat.{Stmt}
use Rattle.pdl_semantics.specs.Flatten.{mems_of}
use Rattle.pdl_semantics.specs.Cycle.{PortWrite}
use Rattle.pdl_semantics.specs.Lines.{column, columns, cycle_lines, mem_lines, puts_for, puts_in}
use Rattle.pdl_rules.specs.Typed.{AreDistinct}
use Rattle.pdl_rules.specs.Memories.{info_of}
use Rattle.pdl_net.specs.Circuit.{Output}
use Rattle.pdl_law_parts.specs.DeclaredMems.{if_locked}
use Rattle.pdl_law_parts.specs.Runs.{column_of, commit_mem}
use Rattle.pdl_law_parts.proofs.WellFormedNames.{Among, name_turned, among_other}
use Rattle.pdl_law_parts.proofs.WellFormedPorts.{stage_names}
use Rattle.pdl_law_parts.proofs.LinesMachine.{AreCommits}
use Rattle.pdl_law_parts.proofs.LinesNames.{name_of_output, second_names}
use Rattle.pdl_law_parts.proofs.LinesPorts.{found, found_first}
use Rattle.pdl_word.proofs.Bytes.{bytes_refl}
use Rattle.pdl_semantics.proofs.Facts.{lock_declared}

-- the memories with a lock, in declared order
abbrev pub locked_infos : List Mem → List MemInfo
locked_infos [] = []
locked_infos (m ∷ ms) = if_locked m (info_of m ∷ []) ++ locked_infos ms

-- each of these memories is the one whose commit port has its name
abbrev pub AreFound : List Mem → List MemInfo → Type 0
AreFound ms infos =
    (m : Mem) → Among m ms → commit_mem infos (codes "c_" ++ m.name.name) ≡ Some (info_of m)

-- of the declared memories each is the one of its name
pub declared_found : (ms : List Mem) → AreDistinct ms → AreFound ms (map info_of ms)
declared_found [] d m a = absurd a
declared_found (x ∷ xs) d m (inl s) =
    subst (λ (y : Mem). commit_mem (map info_of (x ∷ xs)) (codes "c_" ++ y.name.name) ≡ Some (info_of y)) s
    (ap (λ b. if b then Some (info_of x) else commit_mem (map info_of xs) (codes "c_" ++ x.name.name)) (bytes_refl x.name.name))
declared_found (x ∷ xs) d m (inr a) =
    ap (λ b. if b then Some (info_of x) else commit_mem (map info_of xs) (codes "c_" ++ m.name.name)) (among_other x.name.name xs m d.0 a)
    ∙ declared_found xs d.1 m a

-- ---- which memories have a commit port

-- a name that is none of a commit port
other_port : (infos : List MemInfo) (port : List ℕ)
    → ((x : List ℕ) → bytes_eq port (codes "c_" ++ x) ≡ false) → commit_mem infos port ≡ None
other_port [] port h = refl
other_port (m ∷ ms) port h = ap (λ b. if b then Some m else commit_mem ms port) (h m.name) ∙ other_port ms port h

-- the memories whose commit port has one of these names
abbrev pub with_port : List MemInfo → List (List ℕ) → List MemInfo
with_port infos names = filter_map (commit_mem infos) names

-- a name that is of no commit port is skipped
pub skipped : (infos : List MemInfo) (port : List ℕ) (names : List (List ℕ))
    → ((x : List ℕ) → bytes_eq port (codes "c_" ++ x) ≡ false) → with_port infos (port ∷ names) ≡ with_port infos names
skipped infos port names h = ap (λ o. cons_option o (with_port infos names)) (other_port infos port h)

-- the names of the stages' ports are of no memory's commit port
pub none_of_stages : (infos : List MemInfo) (k n : ℕ) (names : List (List ℕ))
    → with_port infos (stage_names k n names) ≡ with_port infos names
none_of_stages infos k zero names = refl
none_of_stages infos k (suc n) names =
    skipped infos (codes "v_" ++ decimal k) ((codes "g_" ++ decimal k) ∷ stage_names (suc k) n names) (λ x. refl)
    ∙ skipped infos (codes "g_" ++ decimal k) (stage_names (suc k) n names) (λ x. refl)
    ∙ none_of_stages infos (suc k) n names

none_of_second : (infos : List MemInfo) (twice : Bool) (x : List ℕ) (names : List (List ℕ))
    → with_port infos (second_names twice x names) ≡ with_port infos names
none_of_second infos true x names =
    skipped infos (codes "c2_" ++ x) ((codes "ca2_" ++ x) ∷ (codes "cd2_" ++ x) ∷ names) (λ y. refl)
    ∙ skipped infos (codes "ca2_" ++ x) ((codes "cd2_" ++ x) ∷ names) (λ y. refl)
    ∙ skipped infos (codes "cd2_" ++ x) names (λ y. refl)
none_of_second infos false x names = refl

-- the names of a memory's commit ports tell that memory, once
pub one_of_locked : (infos : List MemInfo) (x : List ℕ) (twice : Bool) (i : MemInfo) (names : List (List ℕ)) → commit_mem infos (codes "c_" ++ x) ≡ Some i
    → with_port infos ((codes "c_" ++ x) ∷ (codes "ca_" ++ x) ∷ (codes "cd_" ++ x) ∷ second_names twice x names) ≡ i ∷ with_port infos names
one_of_locked infos x twice i names e =
    ap (λ o. cons_option o (with_port infos ((codes "ca_" ++ x) ∷ (codes "cd_" ++ x) ∷ second_names twice x names))) e
    ∙ ap (λ l. i ∷ l)
    (skipped infos (codes "ca_" ++ x) ((codes "cd_" ++ x) ∷ second_names twice x names) (λ y. refl)
    ∙ skipped infos (codes "cd_" ++ x) (second_names twice x names) (λ y. refl) ∙ none_of_second infos twice x names)

-- the memories whose commit ports are among the outputs are those by the outputs' names
pub by_names : (infos : List MemInfo) (outs : List Output)
    → filter_map (λ (o : Output). commit_mem infos o.name) outs ≡ with_port infos (map name_of_output outs)
by_names infos [] = refl
by_names infos (o ∷ outs) = ap (cons_option (commit_mem infos o.name)) (by_names infos outs)

-- ---- the lines of a cycle

-- the lines of what the locked memories commit are those of what all commit
pub locked_lines : (ss : List Stmt) (f : List ℕ → List PortWrite) (number k : ℕ) (ms : List Mem) (es : List (List PortWrite))
    → AreDistinct ms → AreCommits ss k (mems_of ms) es → ((m : Mem) → Among m ms → f m.name.name ≡ found ms es m.name.name)
    → cycle_lines number (map column_of (locked_infos ms)) (map (λ (i : MemInfo). puts_for (f i.name)) (locked_infos ms))
    ≡ cycle_lines number (columns ms) (puts_in es)
locked_lines ss f number k [] [] d h g = refl
locked_lines ss f number k [] (e ∷ es) d h g = absurd h
locked_lines ss f number k (m ∷ ms) [] d h g = absurd h
locked_lines ss f number k (m ∷ ms) (e ∷ es) d h g =
    go (is_some m.lock) (λ n. h.0 (lock_declared m.lock ∙ n))
    (locked_lines ss f number (suc k) ms es d.1 h.2
    (λ n a. g n (inr a)
    ∙ ap (λ t. if t && is_some m.lock then e else found ms es n.name.name) (name_turned n.name.name m.name.name (among_other m.name.name ms n d.0 a))))
  where
    here : f m.name.name ≡ e
    here = g m (inl refl) ∙ found_first m ms e es d.0 h.0

    go : (b : Bool) → (b ≡ false → e ≡ [])
        → cycle_lines number (map column_of (locked_infos ms)) (map (λ (i : MemInfo). puts_for (f i.name)) (locked_infos ms))
        ≡ cycle_lines number (columns ms) (puts_in es)
        → cycle_lines number (map column_of ((if b then info_of m ∷ [] else []) ++ locked_infos ms))
        (map (λ (i : MemInfo). puts_for (f i.name)) ((if b then info_of m ∷ [] else []) ++ locked_infos ms))
        ≡ cycle_lines number (columns (m ∷ ms)) (puts_in (e ∷ es))
    go true n rest = ap₂ (λ o l. mem_lines number (column m) (puts_for o) ++ l) here rest
    go false n rest = rest ∙ ap (λ o. mem_lines number (column m) (puts_for o) ++ cycle_lines number (columns ms) (puts_in es)) (sym (n refl))
