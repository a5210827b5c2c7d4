-- What a thread that runs alone holds and commits of one memory, beside the sequential run.
use Rattle.std.proofs.Common.{if◌then◌else◌, ◌≡◌, refl, sym, ap, ap₂, ◌∙◌, ℕ, Bool, true, false, ◌&&◌, ◌||◌, not, List, [], ◌∷◌, ◌++◌, Some, None, ◌==◌, slice_index, slice_set, append-nil, append_assoc}
use Rattle.std.proofs.lemmas.List.{get_or-set_other}
use Rattle.std.proofs.lemmas.Bool.{eqb-true, eqb-false, not-true}
use Rattle.pdl_semantics.specs.Flat.{Commit}
use Rattle.pdl_theory_turns.specs.Scans.{Phase, after_write, after_reserve, after_release, may_write, is_over}
use Rattle.pdl_theory_turns.specs.Alone.{is_nil, is_among, is_oldest, drop_var, but_last}
use Rattle.pdl_theory_turns.specs.Derived.{Entry, has_entry, without, with_entry_value, released_commits}
use Rattle.pdl_theory_turns.proofs.Writes.{and_left, and_right}
use Rattle.pdl_theory_turns.proofs.Entries.{entry, write_of, Open, Full, waiting, known, open_vars, full_vars, told, last_address, filled_last, let_out, let_out_vars, commit_of, Released, released_full, released_behind, without_none, no_known}

-- the locations that are still without a value, with these values of the variables
abbrev pub opened : List ℕ → List ℕ → List Open
opened env [] = []
opened env (x ∷ xs) = record { var = x; address = slice_index env x } ∷ opened env xs

-- their variables are these
pub opened_vars : (env xs : List ℕ) → open_vars (opened env xs) ≡ xs
opened_vars env [] = refl
opened_vars env (x ∷ xs) = ap (λ l. x ∷ l) (opened_vars env xs)

-- without the oldest
pub opened_front : (env xs : List ℕ) → but_last (opened env xs) ≡ opened env (but_last xs)
opened_front env [] = refl
opened_front env (x ∷ []) = refl
opened_front env (x ∷ y ∷ ys) = ap (λ l. record { var = x; address = slice_index env x } ∷ l) (opened_front env (y ∷ ys))

second_of : (b c : Bool) → (not b && c) ≡ true → c ≡ true
second_of true c h = absurd (cc h)
second_of false c h = h

-- the oldest one has the address that its variable tells
pub opened_last : (env xs : List ℕ) (a : ℕ) → is_oldest a xs ≡ true → last_address (opened env xs) ≡ slice_index env a
opened_last env [] a h = absurd (cc h)
opened_last env (x ∷ []) a h = ap (slice_index env) (eqb-true x a h)
opened_last env (x ∷ y ∷ ys) a h = opened_last env (y ∷ ys) a (second_of (x == a) _ h)

-- a variable that is the address of none of them may get another value
pub opened_set : (env xs : List ℕ) (x v : ℕ) → is_among x xs ≡ false → opened (slice_set env x v) xs ≡ opened env xs
opened_set env [] x v h = refl
opened_set env (y ∷ ys) x v h =
    ap₂ (λ n l. record { var = y; address = n } ∷ l) (get_or-set_other env x y v 0 (λ e. apart (y == x) refl e)) (opened_set env ys x v (rest (y == x) h))
  where
    rest : (b : Bool) → (b || is_among x ys) ≡ false → is_among x ys ≡ false
    rest true k = absurd (cc k)
    rest false k = k

    off : (b : Bool) → (b || is_among x ys) ≡ false → b ≡ false
    off true k = absurd (cc k)
    off false k = refl

    apart : (b : Bool) → (y == x) ≡ b → y ≡ x → ⊥
    apart b k e = eqb-false y x (off (y == x) h) e

-- the entries, the commits and the sequential writes of m in a phase
pub record Tied (m : ℕ) (ph : Phase) (env : List ℕ) (es : List Entry) (cs ws : List Commit) : Type 0 where
  pub fulls : List Full
  pub entries : es ≡ waiting m (opened env ph.unwritten) ++ known m fulls
  pub vars : full_vars fulls ≡ ph.full
  pub written : ws ≡ cs ++ told m fulls
  pub calm : ph.gone ≡ [] → cs ≡ []

-- entries, commits and writes that equal those of a phase are of that phase
pub tied_moved : (m : ℕ) (ph : Phase) (env : List ℕ) (es es' : List Entry) (cs cs' ws ws' : List Commit)
    → es' ≡ es → cs' ≡ cs → ws' ≡ ws → Tied m ph env es cs ws → Tied m ph env es' cs' ws'
tied_moved m ph env es es' cs cs' ws ws' p q r t =
    record {
      fulls = t.fulls;
      entries = p ∙ t.entries;
      vars = t.vars;
      written = r ∙ t.written ∙ ap (λ l. l ++ told m t.fulls) (sym q);
      calm = λ h. q
          ∙ t.calm h;
    }

-- a variable that no held location has may be set, and entries, commits and writes stay of their phase
pub tied_set : (m : ℕ) (ph : Phase) (env : List ℕ) (es : List Entry) (cs ws : List Commit) (x v : ℕ)
    → not (is_among x ph.unwritten) ≡ true → Tied m ph env es cs ws → Tied m ph (slice_set env x v) es cs ws
tied_set m ph env es cs ws x v h t =
    record {
      fulls = t.fulls;
      entries = t.entries ∙ ap (λ l. waiting m l ++ known m t.fulls) (sym (opened_set env ph.unwritten x v (not-true _ h)));
      vars = t.vars;
      written = t.written;
      calm = t.calm;
    }

-- with a reservation of m, where none was made, the write of m is tied to the sequential run as a held one
pub tied_reserve : (m a : ℕ) (ph : Phase) (env : List ℕ) (es : List Entry) (cs ws : List Commit)
    → Tied m ph env es cs ws → Tied m (after_reserve ph a) env (entry m a (slice_index env a) None ∷ es) cs ws
tied_reserve m a ph env es cs ws t =
    record { fulls = t.fulls; entries = ap (λ l. entry m a (slice_index env a) None ∷ l) t.entries; vars = t.vars; written = t.written; calm = t.calm }

-- a write through its reservation
pub tied_write : (m a v : ℕ) (ph : Phase) (env : List ℕ) (es : List Entry) (cs ws : List Commit)
    → may_write ph a ≡ true → Tied m ph env es cs ws
    → Tied m (after_write ph a) env (with_entry_value es m a v) cs (ws ++ write_of m (slice_index env a) v ∷ [])
tied_write m a v ph env es cs ws h t =
    record {
      fulls = record { var = a; address = slice_index env a; value = v } ∷ t.fulls;
      entries = ap (λ l. with_entry_value l m a v) t.entries
          ∙ filled_last m a v (opened env ph.unwritten) (known m t.fulls) (ap (is_oldest a) (opened_vars env ph.unwritten) ∙ oldest)
          ∙ ap₂ (λ l n. waiting m l ++ entry m a n (Some v) ∷ known m t.fulls) (opened_front env ph.unwritten) (opened_last env ph.unwritten a oldest);
      vars = ap (λ l. a ∷ l) t.vars;
      written = ap (λ l. l ++ write_of m (slice_index env a) v ∷ []) t.written ∙ append_assoc cs (told m t.fulls) (write_of m (slice_index env a) v ∷ []);
      calm = t.calm;
    }
  where
    oldest : is_oldest a ph.unwritten ≡ true
    oldest = h

-- with a release of m the write of m stays tied to the sequential run, in the phase after the release
pub tied_release : (m a : ℕ) (ph : Phase) (env : List ℕ) (es : List Entry) (cs ws : List Commit)
    → not (is_among a ph.unwritten) ≡ true → Tied m ph env es cs ws
    → Tied m (after_release ph a) env (without es m a) (cs ++ released_commits es m a) ws
tied_release m a ph env es cs ws h t = at (is_among a ph.full) refl
  where
    os : List Open
    os = opened env ph.unwritten

    behind : (without (waiting m os ++ known m t.fulls) m a ≡ waiting m os ++ without (known m t.fulls) m a)
        × (released_commits (waiting m os ++ known m t.fulls) m a ≡ released_commits (known m t.fulls) m a)
        × (has_entry (waiting m os ++ known m t.fulls) m a ≡ has_entry (known m t.fulls) m a)
    behind = released_behind m a os (known m t.fulls) (ap (is_among a) (opened_vars env ph.unwritten) ∙ not-true _ h)

    at : (b : Bool)
        → is_among a ph.full ≡ b
        → Tied m (if b then record { unwritten = ph.unwritten; full = drop_var a ph.full; gone = a ∷ ph.gone } else ph) env (without es m a)
        (cs ++ released_commits es m a) ws
    at true e =
        let r : Released m a t.fulls = released_full m a t.fulls (ap (is_among a) t.vars ∙ e) in
        record {
          fulls = let_out t.fulls a;
          entries = ap (λ l. without l m a) t.entries ∙ behind.0 ∙ ap (λ l. waiting m os ++ l) r.rest;
          vars = let_out_vars t.fulls a ∙ ap (drop_var a) t.vars;
          written = t.written ∙ ap (λ l. cs ++ l) r.front ∙ sym (append_assoc cs (commit_of m r.out ∷ []) (told m (let_out t.fulls a)))
              ∙ ap (λ l. (cs ++ l) ++ told m (let_out t.fulls a)) (sym (ap (λ l. released_commits l m a) t.entries ∙ behind.1 ∙ r.commits));
          calm = λ k. absurd (cc k);
        }
    at false e =
        let n = without_none (known m t.fulls) m a (no_known m a t.fulls (ap (is_among a) t.vars ∙ e)) in
        tied_moved m ph env es _ cs _ ws ws
        (ap (λ l. without l m a) t.entries ∙ behind.0 ∙ ap (λ l. waiting m os ++ l) n.0 ∙ sym t.entries)
        (ap (λ l. cs ++ l) (ap (λ l. released_commits l m a) t.entries ∙ behind.1 ∙ n.1) ∙ append-nil cs) refl t

-- a memory of which all is over holds nothing
pub nil_of : (xs : List ℕ) → is_nil xs ≡ true → xs ≡ []
nil_of [] h = refl
nil_of (x ∷ xs) h = absurd (cc h)

-- locations without variables are none
pub no_fulls : (fs : List Full) → full_vars fs ≡ [] → fs ≡ []
no_fulls [] h = refl
no_fulls (f ∷ fs) h = absurd (cc h)

-- where the phase is over, no entry is left, and the commits are the sequential writes
pub finished : (m : ℕ) (ph : Phase)
    → is_over ph ≡ true → (env : List ℕ) (es : List Entry) (cs ws : List Commit) → Tied m ph env es cs ws → (es ≡ []) × (cs ≡ ws)
finished m ph h env es cs ws t =
    let f : t.fulls ≡ [] = no_fulls t.fulls
    (t.vars ∙ nil_of ph.full (and_right (is_nil ph.unwritten) _ h)) in (
      t.entries ∙ ap₂ (λ l k. waiting m (opened env l) ++ known m k) (nil_of ph.unwritten (and_left _ _ h)) f,
      sym (append-nil cs) ∙ sym (t.written ∙ ap (λ l. cs ++ told m l) f),
    )
