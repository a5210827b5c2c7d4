-- An advisory memory: a path reserves, releases and writes nothing of it that a lock would see.
use Rattle.std.proofs.Common.{◌≡◌, refl, sym, ap, ◌∙◌, subst, ℕ, Bool, true, false, ◌||◌, not, List, [], ◌∷◌, Some, ◌==◌, if◌then◌else◌}
use Rattle.std.proofs.lemmas.Bool.{and_from, or_left, or_right, or_parts, both_ways, not-false, false_from_ne_true}
use Rattle.pdl_semantics.specs.Tree.{Location, R, W, Variable, Stmt, CombRead, Bind, Write, Reserve, Release, If, Mem, Pipe}
use Rattle.pdl_semantics.specs.Flat
use Rattle.pdl_semantics.specs.Flatten.{Var, var_of, mem_of, flat_expr, is_advisory_mem, is_advised, write_op}
use Rattle.std.proofs.Common.{◌≡◌, refl, sym, ap, ◌∙◌, subst, ℕ, Bool, true, false, ◌||◌, not, List, [], ◌∷◌, if◌then◌else◌, ◌==◌, bytes_eq, Some}
use Rattle.pdl_word.proofs.Bytes.{bytes_same}
use Rattle.pdl_theory_turns.specs.Alone.{answered_op}
use Rattle.pdl_theory_turns.specs.Scans.{Fresh, after_write, after_reserve, after_release, next_phase, phase_ok, phases_ok, phase_all}
use Rattle.pdl_rules.specs.Places.{Branch, Statement}
use Rattle.pdl_rules.specs.Parts.{location_of}
use Rattle.pdl_rules.specs.Typed.{is_memory}
use Rattle.pdl_source_paths.proofs.Variables.{IsNamed}
use Rattle.pdl_rules.specs.Locks.{is_locked, breaks_f5}
use Rattle.pdl_source_stages.proofs.Sites.{Site, All}
use Rattle.pdl_source_stages.proofs.SiteFacts.{either_read, either_bind}
use Rattle.pdl_source_paths.proofs.PathStatements.{ops, ops_of, seen}
use Rattle.pdl_source_paths.proofs.SiteStages.{some_op}
use Rattle.pdl_source_paths.proofs.WritesKept.{phases_append, phase_append, phase_ops, phase_oks}
use Rattle.pdl_source_paths.proofs.Numbers.{mem_is}

-- whether a statement moves what a memory's lock has on a path
abbrev pub touches : ℕ → Flat.Op → Bool
touches i (Flat.Write n a e) = n == i
touches i (Flat.ReserveWrite n a) = n == i
touches i (Flat.Release n a) = n == i
touches i _ = false

quiet_op : (i : ℕ) (op : Flat.Op) → touches i op ≡ false → (phase_ok i Fresh (answered_op op) ≡ true) × (next_phase i Fresh (answered_op op) ≡ Fresh)
quiet_op i (Flat.CombRead x n a) h = (or_right (not (n == i)) true refl, refl)
quiet_op i (Flat.DelayedRead x n a) h = (or_right (not (n == i)) true refl, refl)
quiet_op i (Flat.Write n a e) h = (or_left (not (n == i)) _ (ap not h), ap (λ b. if b then after_write Fresh a else Fresh) h)
quiet_op i (Flat.ReserveWrite n a) h = (or_left (not (n == i)) _ (ap not h), ap (λ b. if b then after_reserve Fresh a else Fresh) h)
quiet_op i (Flat.Release n a) h = (or_left (not (n == i)) _ (ap not h), ap (λ b. if b then after_release Fresh a else Fresh) h)
quiet_op i _ h = (refl, refl)

quiet_ops : (i : ℕ) (os : List Flat.Op) → some_op (touches i) os ≡ false → (phase_oks i Fresh os ≡ true) × (phase_ops i Fresh os ≡ Fresh)
quiet_ops i [] h = (refl, refl)
quiet_ops i (op ∷ os) h =
    let parts = or_parts (touches i op) (some_op (touches i) os) h in
    let here = quiet_op i op parts.0 in
    let rest = quiet_ops i os parts.1 in
    (and_from _ _ here.0 (ap (λ ph. phase_oks i ph os) here.1 ∙ rest.0), ap (λ ph. phase_ops i ph os) here.1 ∙ rest.1)

-- of a memory that no site touches the phase stays fresh
pub quiet_seen : (i : ℕ) (ms : List Mem) (ts : List Site)
    → All (λ t. some_op (touches i) (ops ms t) ≡ false) ts
    → (phases_ok i Fresh (seen ms ts) ≡ true) × (phase_all i Fresh (seen ms ts) ≡ Fresh)
quiet_seen i ms [] h = (refl, refl)
quiet_seen i ms (t ∷ ts) h =
    let here = quiet_ops i (ops ms t) h.0 in
    let rest = quiet_seen i ms ts h.1 in (
      phases_append i t.walk.stage Fresh (ops ms t) (seen ms ts) here.0 (ap (λ ph. phases_ok i ph (seen ms ts)) here.1 ∙ rest.0),
      phase_append i t.walk.stage Fresh (ops ms t) (seen ms ts) ∙ (ap (λ ph. phase_all i ph (seen ms ts)) here.1 ∙ rest.1),
    )

-- a statement touches no memory without lock that is advisory
pub untouched : (p : Pipe) (m : List ℕ)
    → is_memory p.mems m ≡ true → is_advisory_mem p.mems m ≡ true → is_locked p.mems m ≡ false
    → (vs : List Var) (s : Stmt) (bs : List Branch)
    → ((at : Location) → location_of s ≡ Some at → IsNamed p.mems vs at) → breaks_f5 p (Statement s bs) ≡ false
    → some_op (touches (mem_of p.mems m)) (ops_of p.mems vs s) ≡ false
untouched p m there advisory unlocked vs s bs = at s
  where
    far : (l : Location) → not (is_locked p.mems l.mem.name) ≡ false → bytes_eq l.mem.name m ≡ false
    far l g = false_from_ne_true _ (λ t. both_ways _ unlocked (subst (λ n. is_locked p.mems n ≡ true) (bytes_same _ _ t) (not-false _ g)))

    Quiet : Flat.Op → Type 0
    Quiet op = some_op (touches (mem_of p.mems m)) (op ∷ []) ≡ false

    elsewhere : (l : Location) → IsNamed p.mems vs l → bytes_eq l.mem.name m ≡ false → ((mem_of p.mems l.mem.name == mem_of p.mems m) || false) ≡ false
    elsewhere l n e = ap (λ b. b || false) (mem_is p.mems l.mem.name m n.0 there ∙ e)

    at : (z : Stmt)
        → ((l : Location) → location_of z ≡ Some l → IsNamed p.mems vs l) → breaks_f5 p (Statement z bs) ≡ false
        → some_op (touches (mem_of p.mems m)) (ops_of p.mems vs z) ≡ false
    at (CombRead sp x l) h f = either_read Quiet (is_advisory_mem p.mems l.mem.name) _ _ _ refl refl
    at (Bind sp x v) h f = either_bind Quiet (is_advised vs v) _ _ refl refl
    at (Write sp l v) h f = go (is_advisory_mem p.mems l.mem.name) refl
      where
        go : (k : Bool) → is_advisory_mem p.mems l.mem.name ≡ k → Quiet (write_op k (mem_of p.mems l.mem.name) (var_of vs l.address.name) (flat_expr vs v))
        go true a = refl
        go false a =
            elsewhere l (h l refl) (false_from_ne_true _ (λ t. both_ways _ a (subst (λ n. is_advisory_mem p.mems n ≡ true) (sym (bytes_same _ _ t)) advisory)))
    at (Reserve sp l R) h f = refl
    at (Reserve sp l W) h f = elsewhere l (h l refl) (far l f)
    at (Release sp l) h f = elsewhere l (h l refl) (far l f)
    at (If sp (Variable x) when otherwise) h f = refl
    at (If sp c when otherwise) h f = refl
    at _ h f = refl
