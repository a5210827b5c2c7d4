-- Rules taken one after another.
use Rattle.std.proofs.Common.{◌≡◌, ◌≢◌, ℕ, suc, ◌+◌, ◌<◌, Bool, true, false, cond, List, [], ◌∷◌, ◌++◌, length, take, map, get_or, Some, None, Err, refl, sym, ap, ◌∙◌, subst, arith, append_assoc, append-nil, length-append, drop}
use Rattle.std.proofs.lemmas.List.{take_more, take-append-drop, drop_more, map-append}
use Rattle.pdl_vread_text.specs.declared.field.Field.{Field}
use Rattle.pdl_vread_text.specs.declared.part.Part.{Part}
use Rattle.pdl_vread_text.specs.declared.part.Part.TheVariants as p
use Rattle.pdl_vread_text.specs.declared.rule.VerilogRule.{VerilogRule}
use Rattle.pdl_vread_text.specs.declared.draft.Draft.{Draft}
use Rattle.pdl_vread_text.specs.Tokens.{Token}
use Rattle.pdl_vread_text.specs.Grammar.{Row, Taken, AllFit, none, more, fits, fields, chosen, begins_with, begins_fields, first_with, is_finished, rules, next}
use Rattle.pdl_vread_text.specs.Drafts.{no_draft, taken, all_taken}
use Rattle.pdl_vread_text.specs.declared.token.VerilogToken as r
use Rattle.pdl_vread_text.specs.declared.read.ReaderStop.{ReaderStop}
use Rattle.pdl_vread_text.specs.declared.read.ReaderStop.TheVariants as stop
use Rattle.pdl_vread_text.specs.Cursor.{token_view, next as skipped}
use Rattle.pdl_vread_text.specs.Read.{IsFitting, Sentence, TakesRules, IsUnfit, Found, Stopped, Comes, Leads, here, further, all_found, chosen_at, nothing, inside, IsTaken, IsOff, TakesRule}

-- ---- the tokens of one rule

-- tokens that are what is asked are so with one more that is what is asked next
pub one_fits : (gs : List Field) (ts : Row) (g : Field) (t : Token) → AllFit gs ts
    → fits g t.text ≡ true → AllFit (gs ++ g ∷ []) (ts ++ t ∷ [])
one_fits _ _ g t none e = more e none
one_fits _ _ g t (more {gs = hs} {ts = us} d a) e = more d (one_fits hs us g t a e)

-- the first rule whose first token a word may be has it as its first token
found_begins : (rs : List VerilogRule) (t : List ℕ) (r : VerilogRule) → first_with rs t ≡ Some r → begins_with r t ≡ true
found_begins [] t r e = cc
found_begins (s ∷ rs) t r e = go (begins_with s t) refl e (found_begins rs t r)
  where
    go : (b : Bool) → begins_with s t ≡ b → cond b (Some s) (first_with rs t) ≡ Some r
        → (first_with rs t ≡ Some r → begins_with r t ≡ true) → begins_with r t ≡ true
    go true is e f = let k : s ≡ r = cc in subst (λ x. begins_with x t ≡ true) k is
    go false is e f = f e

-- the rule that comes at a part is one that may begin with the next token
pub chosen_begins : (part : Part) (t : List ℕ) (r : VerilogRule) → chosen part t ≡ Some r → begins_with r t ≡ true
unfolding chosen
chosen_begins part t r e = found_begins (rules part) t r e

-- ---- rules so far

-- rules that lead from the start to this part took the tokens up to those that are left, and made this draft
pub record AreSoFar (old new : Row) (part : Part) (d : Draft) : Type 0 where
  pub rules : List Taken
  pub leads : Leads rules part
  pub split : old ≡ all_found rules ++ new
  pub draft : d ≡ all_taken no_draft rules

-- before the first rule no token is taken, and the draft is empty
pub none_yet : (ts : Row) → AreSoFar ts ts p.Start no_draft
unfolding all_taken
none_yet ts = record { rules = []; leads = here; split = refl; draft = refl }

all_taken_more : (d : Draft) (ts : List Taken) (t : Taken) → all_taken d (ts ++ t ∷ []) ≡ taken (all_taken d ts) t.rule t.found
unfolding all_taken
all_taken_more d [] t = refl
all_taken_more d (u ∷ us) t = all_taken_more (taken d u.rule u.found) us t

-- the tokens of rules, with one rule more, are theirs and then those of that rule
pub all_found_more : (ts : List Taken) (t : Taken) → all_found (ts ++ t ∷ []) ≡ all_found ts ++ t.found
all_found_more [] t = append-nil t.found
all_found_more (u ∷ us) t = ap (λ x. u.found ++ x) (all_found_more us t) ∙ sym (append_assoc u.found (all_found us) t.found)

-- the tokens after a part, from which a rule's were taken
pub comes : (part : Part) (rule : VerilogRule) (old found new : Row)
    → chosen_at part old ≡ Some rule → Found (fields rule) old found new
    → Comes part (record { rule = rule; found = found })
comes part rule [] found new e f = cc
comes part rule (t ∷ ts) [] new e f = absurd (no_tokens (fields rule) (chosen_begins part t.text rule e) f.fit)
  where
    no_tokens : (gs : List Field) → begins_fields gs t.text ≡ true → AllFit gs [] → ⊥
    no_tokens [] b a = cc
    no_tokens (_ ∷ _) b a = elim a [ ]
comes part rule (t ∷ ts) (u ∷ us) new e f =
    let k : t ≡ u = cc in
    record { token = u; more = us; found = refl; chosen = subst (λ x. chosen part x.text ≡ Some rule) k e; fit = f.fit }

one_more_rule : (old mid found new : Row) (part : Part) (rule : VerilogRule) (d : Draft) → AreSoFar old mid part d
    → chosen_at part mid ≡ Some rule → Found (fields rule) mid found new
    → AreSoFar old new (next rule) (taken d rule found)
one_more_rule old mid found new part rule d h e f =
    let t : Taken = record { rule = rule; found = found } in
    record {
      rules = h.rules ++ t ∷ [];
      leads = further t h.leads (comes part rule mid found new e f);
      split =
          h.split
          ∙ (ap (λ x. all_found h.rules ++ x) f.split
          ∙ (sym (append_assoc (all_found h.rules) found new) ∙ ap (λ x. x ++ new) (sym (all_found_more h.rules t))));
      draft = ap (λ x. taken x rule found) h.draft ∙ sym (all_taken_more no_draft h.rules t);
    }

-- a rule that comes at a part leaves fewer tokens than there were
pub fewer_left : (part : Part) (rule : VerilogRule) (old found new : Row)
    → chosen_at part old ≡ Some rule → Found (fields rule) old found new → length new < length old
fewer_left part rule old found new e f =
    let k = comes part rule old found new e f in
    let l : length old ≡ length (found ++ new) = ap length f.split in
    let m : length found ≡ suc (length k.more) = ap length k.found in
    omega (arith, l, m, length-append found new)

not_finished : (part : Part) → is_finished part ≡ false → part ≢ p.Finished
not_finished part h = λ e. let k : true ≡ false = subst (λ x. is_finished x ≡ false) e h in cc

-- ---- steps of the reader

abbrev views : List r.VerilogToken → Row
views ts = map token_view ts

-- before the first token of a rule none is found, and all are left
pub nothing_found : (ts : Row) (items : List r.VerilogToken) → items ≡ [] → (AllFit [] (views items)) × (ts ≡ views items ++ ts)
nothing_found ts items e = (subst (λ x. AllFit [] (views x)) (sym e) none, ap (λ x. views x ++ ts) (sym e))

-- a token that is what is asked next is found, and those after it are left
pub one_more_token : (gs : List Field) (i : ℕ) (d : Field) (old mid new : Row) (items others : List r.VerilogToken) (t : r.VerilogToken)
    → i < length gs → AllFit (take i gs) (views items) → old ≡ views items ++ mid
    → IsFitting mid (get_or gs i d) (Some t) → new ≡ skipped mid → others ≡ items ++ t ∷ []
    → (AllFit (take (i + 1) gs) (views others)) × (old ≡ views others ++ new)
one_more_token gs i d old [] new items others t l a s f n m = absurd f
one_more_token gs i d old (u ∷ us) new items others t l a s f n m =
    let g = get_or gs i d in
    let v : views others ≡ views items ++ u ∷ [] = ap views m ∙ (map-append token_view items (t ∷ []) ∙ ap (λ x. views items ++ x ∷ []) f.0) in
    let k : take (i + 1) gs ≡ take i gs ++ g ∷ [] = take_more gs i d l in
    let b : AllFit (take i gs ++ g ∷ []) (views items ++ u ∷ []) = one_fits (take i gs) (views items) g u a f.1 in (
      subst (λ x. AllFit x (views others)) (sym k) (subst (AllFit (take i gs ++ g ∷ [])) (sym v) b),
      s ∙ (sym (append_assoc (views items) (u ∷ []) us) ∙ (ap (λ x. x ++ us) (sym v) ∙ ap (λ x. views others ++ x) (sym n))),
    )

-- a rule stops at a token that isn't what is asked next
pub no_more_token : (gs : List Field) (i : ℕ) (d : Field) (old mid : Row) (items : List r.VerilogToken)
    → i < length gs → AllFit (take i gs) (views items) → old ≡ views items ++ mid → IsFitting mid (get_or gs i d) None
    → Stopped gs old (views items) mid
no_more_token gs i d old mid items l a s f = record {
  done = take i gs;
  field = get_or gs i d;
  later = drop (i + 1) gs;
  parts = sym (take-append-drop i gs) ∙ ap (λ x. take i gs ++ x) (drop_more gs i d l);
  fit = a;
  split = s;
  unfit = unfit_of mid (get_or gs i d) f;
}
  where
    unfit_of : (m : Row) (h : Field) → IsFitting m h None → IsUnfit h m
    unfit_of [] h x = x
    unfit_of (u ∷ us) h x = x

-- an empty draft is one before the first rule
pub begun : (ts : Row) (d : Draft) → d ≡ no_draft → AreSoFar ts ts p.Start d
begun ts d e = subst (AreSoFar ts ts p.Start) (sym e) (none_yet ts)

-- where the tokens of the rule that comes at a part stop, so does taking the rule
pub one_stopped : (old found new : Row) (part : Part) (rule : VerilogRule) (gs : List Field) (d e : Draft) (stop : ReaderStop)
    → Some rule ≡ chosen_at part old → gs ≡ fields rule → Sentence gs old found new (Err stop)
    → TakesRule part old new d e (Err stop)
one_stopped old found new part rule gs d e stop.NoMemory c g s = tt
one_stopped old found new part rule gs d e stop.Misplaced c g s =
    let k : Stopped (fields rule) old found new = subst (λ y. Stopped y old found new) g s in
    record { front = found; split = k.split; stuck = λ n. inside (sym c) k }

-- at a part where no rule comes no token is taken, and the tokens are stuck
pub none_chosen : (part : Part) (old : Row) → None ≡ chosen_at part old → IsOff part old old
none_chosen part old e = record { front = []; split = refl; stuck = λ n. nothing n (sym e) }

-- the rules taken so far go on with the rule that was taken next
pub gone_on : (old mid new : Row) (part after : Part) (d e : Draft) → AreSoFar old mid part d
    → IsTaken part mid new d e after → AreSoFar old new after e
gone_on old mid new part after d e h t =
    let o = one_more_rule old mid t.row new part t.rule d h t.comes t.front in
    subst (λ x. AreSoFar old new x e) (sym t.goes_on) (subst (AreSoFar old new (next t.rule)) (sym t.draft) o)

-- a rule that is taken leaves fewer tokens than there were
pub fewer : (part after : Part) (old new : Row) (d e : Draft) → IsTaken part old new d e after → length new < length old
fewer part after old new d e t = fewer_left part t.rule old t.row new t.comes t.front

-- where taking the next rule stops before the end of a file, taking all rules does
pub stopped_so : (old mid new : Row) (part : Part) (d e : Draft) (stop : ReaderStop) → AreSoFar old mid part d
    → is_finished part ≡ false → TakesRule part mid new d e (Err stop) → TakesRules old new e (Err stop)
stopped_so old mid new part d e stop.NoMemory h n s = tt
stopped_so old mid new part d e stop.Misplaced h n s =
    record {
      rules = h.rules;
      part = part;
      leads = h.leads;
      front = s.front;
      split = h.split ∙ ap (λ x. all_found h.rules ++ x) s.split;
      stuck = s.stuck (not_finished part n);
    }
