-- The place of a refusal: what the reader tells is the first token out of place, and there is one file and one place.
use Rattle.std.proofs.Common.{◌≡◌, ◌≢◌, ℕ, ◌<◌, true, false, List, [], ◌∷◌, ◌++◌, length, Some, None, Result, Ok, Err, refl, sym, ap, ◌∙◌, subst, arith, append_assoc, append-nil}
use Rattle.pdl_vread_text.specs.declared.field.Field.{Field}
use Rattle.pdl_vread_text.specs.declared.part.Part.{Part}
use Rattle.pdl_vread_text.specs.declared.part.Part.TheVariants as p
use Rattle.pdl_vread_text.specs.declared.rule.VerilogRule.{VerilogRule}
use Rattle.pdl_vread_text.specs.declared.draft.Draft.{Draft}
use Rattle.pdl_vread_text.specs.declared.file.File.{File}
use Rattle.pdl_vread_text.specs.declared.read.VerilogError.{VerilogError}
use Rattle.pdl_vread_text.specs.declared.read.VerilogError.TheVariants.{Misplaced, NoMemory}
use Rattle.pdl_vread_text.specs.Tokens.{Token, tokens, last_line}
use Rattle.pdl_vread_text.specs.Grammar.{Row, Taken, AllFit, none, more, fits, fields, chosen, begins_fields, next, Derives, finished, goes}
use Rattle.pdl_vread_text.specs.Drafts.{file_of}
use Rattle.pdl_vread_text.specs.Read.{IsUnfit, Stopped, Comes, Leads, here, further, all_found, chosen_at, IsStuck, nothing, inside, AreTaken, AreStopped, Judges}
use Rattle.pdl_vread_text.specs.declared.token.VerilogToken as r
use Rattle.pdl_vread_text.specs.Cursor.{token_view, maybe_token_view, first}
use Rattle.pdl_vread_text.specs.Text.{IsFile, Begins, line_of, IsOutOfPlace, GivesFile, GivesLine, IsRefused}
use Rattle.pdl_vread_text.proofs.Rules.{chosen_begins, all_found_more}
use Rattle.pdl_vread_text.proofs.Complete.{Rest, rest, ends}
use Rattle.pdl_word.proofs.Lists.{longer, same_after}

-- ---- what leads to a part

-- these rules are those that were taken, and then some by which the part has the tokens that are left
pub record Onward (done : List Taken) (part : Part) (left : Row) (rs : List Taken) : Type 0 where
  pub more : List Taken
  pub derives : Derives part left more
  pub rules : rs ≡ done ++ more

-- the rules that lead to a part, and those from it on, are a file's
lead_on : (done : List Taken) (part : Part) (left : Row) (rs : List Taken) → Leads done part → Derives part left rs
    → Derives p.Start (all_found done ++ left) (done ++ rs)
lead_on [] p.Start left rs here d = d
lead_on _ _ left rs (further {done = done} {part = part} t l c) d =
    let k : Derives part (t.found ++ left) (t ∷ rs) =
    subst (λ x. Derives part (x ++ left) (record { rule = t.rule; found = x } ∷ rs)) (sym c.found)
    (goes c.chosen (subst (AllFit (fields t.rule)) c.found c.fit) d) in
    let i = lead_on done part (t.found ++ left) (t ∷ rs) l k in
    let a : all_found done ++ (t.found ++ left) ≡ all_found (done ++ t ∷ []) ++ left =
    sym (append_assoc (all_found done) t.found left) ∙ ap (λ x. x ++ left) (sym (all_found_more done t)) in
    let b : done ++ t ∷ rs ≡ (done ++ t ∷ []) ++ rs = sym (append_assoc done (t ∷ []) rs) in
    subst (λ x. Derives p.Start (all_found (done ++ t ∷ []) ++ left) x) b (subst (λ x. Derives p.Start x (done ++ t ∷ rs)) a i)

-- tokens that are what is asked, before others, are as many in each way
same_front : (gs : List Field) (xs ys a b : Row) → AllFit gs xs → AllFit gs ys → xs ++ a ≡ ys ++ b → (xs ≡ ys) × (a ≡ b)
same_front _ _ _ a b none none e = (refl, e)
same_front _ _ _ a b (more {gs = gs} {t = x} {ts = xs} h i) (more {t = y} {ts = ys} j k) e =
    let q : xs ++ a ≡ ys ++ b = cc in
    let r : x ≡ y = cc in
    let s = same_front gs xs ys a b i k q in
    (ap (λ z. z ∷ xs) r ∙ ap (λ z. y ∷ z) s.0, s.1)

-- a rule that comes at a part is the one by which a file goes on there
come_off : (part : Part) (t : Taken) (left : Row) (rs : List Taken) (all : Row) → Comes part t
    → all ≡ t.found ++ left → Derives part all rs → Onward (t ∷ []) (next t.rule) left rs
come_off _ t left _ _ c e finished = absurd (empty t.found c.token c.more c.found e)
  where
    empty : (f : Row) (u : Token) (us : Row) → f ≡ u ∷ us → [] ≡ f ++ left → ⊥
    empty f u us a b = let k : [] ≡ u ∷ (us ++ left) = subst (λ x. [] ≡ x ++ left) a b in cc
come_off part t left _ _ c e (goes {rule = rule} {t = u} {ts = us} {rest = later} {more = more2} h a d) =
    let first : u ∷ (us ++ later) ≡ c.token ∷ (c.more ++ left) = subst (λ x. u ∷ (us ++ later) ≡ x ++ left) c.found e in
    let same : u ≡ c.token = cc in
    let is : Some rule ≡ Some t.rule = sym h ∙ (ap (λ x. chosen part x.text) same ∙ c.chosen) in
    let r : rule ≡ t.rule = cc in
    let s = same_front (fields t.rule) (u ∷ us) t.found later left (subst (λ x. AllFit (fields x) (u ∷ us)) r a) c.fit e in
    record {
      more = more2;
      derives = subst (λ x. Derives (next t.rule) x more2) s.1 (subst (λ x. Derives (next x) later more2) r d);
      rules = ap (λ x. record { rule = x; found = u ∷ us } ∷ more2) r ∙ ap (λ x. record { rule = t.rule; found = x } ∷ more2) s.0;
    }

-- a file that begins with the tokens that lead to a part goes on from it
cancel : (done : List Taken) (part : Part) (left : Row) (rs : List Taken) → Leads done part
    → Derives p.Start (all_found done ++ left) rs → Onward done part left rs
cancel [] p.Start left rs here d = record { more = rs; derives = d; rules = refl }
cancel _ _ left rs (further {done = done} {part = part} t l c) d =
    let a : all_found (done ++ t ∷ []) ++ left ≡ all_found done ++ (t.found ++ left) =
    ap (λ x. x ++ left) (all_found_more done t) ∙ append_assoc (all_found done) t.found left in
    let k = cancel done part (t.found ++ left) rs l (subst (λ x. Derives p.Start x rs) a d) in
    let o = come_off part t left k.more (t.found ++ left) c refl k.derives in
    record {
      more = o.more;
      derives = o.derives;
      rules = k.rules ∙ (ap (λ x. done ++ x) o.rules ∙ sym (append_assoc done (t ∷ []) o.more));
    }

-- ---- where nothing goes on

-- the first of tokens that are what is asked
record Off (g : Field) (gs : List Field) (xs : Row) : Type 0 where
  token : Token
  row : Row
  is : xs ≡ token ∷ row
  fits : fits g token.text ≡ true
  fit : AllFit gs row

one_off : (g : Field) (gs : List Field) (xs : Row) → AllFit (g ∷ gs) xs → Off g gs xs
one_off g gs _ (more {t = t} {ts = ts} e a) = record { token = t; row = ts; is = refl; fits = e; fit = a }

unfit_first : (later : List Field) (g : Field) (xs a left : Row) → AllFit (g ∷ later) xs → xs ++ a ≡ left → IsUnfit g left → ⊥
unfit_first later g xs a [] i s u = let o = one_off g later xs i in let k : o.token ∷ (o.row ++ a) ≡ [] = subst (λ x. x ++ a ≡ []) o.is s in cc
unfit_first later g xs a (t ∷ ts) i s u =
    let o = one_off g later xs i in
    let k : o.token ∷ (o.row ++ a) ≡ t ∷ ts = subst (λ x. x ++ a ≡ t ∷ ts) o.is s in
    let same : o.token ≡ t = cc in
    let j : true ≡ false = sym o.fits ∙ (ap (λ y. fits g y.text) same ∙ u) in cc

-- the rule that a part begins, where its tokens are not what is asked
no_fit : (done later : List Field) (g : Field) (xs front a left : Row) → AllFit (done ++ g ∷ later) xs
    → AllFit done front → xs ++ a ≡ front ++ left → IsUnfit g left → ⊥
no_fit _ later g xs _ a left i none s u = unfit_first later g xs a left i s u
no_fit _ later g xs _ a left i (more {g = h} {gs = hs} {t = y} {ts = ys} j k) s u =
    let o = one_off h (hs ++ g ∷ later) xs i in
    let z : o.token ∷ (o.row ++ a) ≡ y ∷ (ys ++ left) = subst (λ x. x ++ a ≡ y ∷ (ys ++ left)) o.is s in
    let q : o.row ++ a ≡ ys ++ left = cc in
    no_fit hs later g o.row ys a left o.fit k q u

-- the first tokens of a rule that was begun
first_of : (rule : VerilogRule) (part : Part) (old front left : Row)
    → chosen_at part old ≡ Some rule → Stopped (fields rule) old front left
    → record { token : Token; more : Row; front : front ≡ token ∷ more; chosen : chosen part token.text ≡ Some rule }
first_of rule part [] front left e s = cc
first_of rule part (t ∷ ts) [] left e s = absurd (go s.done s.fit s.parts)
  where
    go : (done : List Field) → AllFit done [] → fields rule ≡ done ++ s.field ∷ s.later → ⊥
    go [] none parts =
        let b : fits s.field t.text ≡ true = subst (λ x. begins_fields x t.text ≡ true) parts (chosen_begins part t.text rule e) in
        let u : fits s.field t.text ≡ false = subst (IsUnfit s.field) (sym s.split) s.unfit in
        cc
    go (_ ∷ _) a parts = elim a [ ]
first_of rule part (t ∷ ts) (u ∷ us) left e s =
    let k : t ≡ u = let i = s.split in cc in
    record { token = u; more = us; front = refl; chosen = subst (λ x. chosen part x.text ≡ Some rule) k e }

-- other tokens in place of those left, the first of which is the same
abbrev IsLike : Row → Row → Type 0
IsLike [] [] = Unit {0}
IsLike (t ∷ ts) (u ∷ us) = t ≡ u
IsLike _ _ = ⊥

unfit_like : (g : Field) (left others : Row) → IsLike left others → IsUnfit g left → IsUnfit g others
unfit_like g [] [] l u = u
unfit_like g (t ∷ ts) (v ∷ vs) l u = subst (λ x. fits g x.text ≡ false) l u
unfit_like g [] (v ∷ vs) l u = absurd l
unfit_like g (t ∷ ts) [] l u = absurd l

chosen_like : (part : Part) (left others : Row) → IsLike left others → chosen_at part left ≡ None → chosen_at part others ≡ None
chosen_like part [] [] l e = e
chosen_like part (t ∷ ts) (v ∷ vs) l e = subst (λ x. chosen part x.text ≡ None) l e
chosen_like part [] (v ∷ vs) l e = absurd l
chosen_like part (t ∷ ts) [] l e = absurd l

-- no file goes on from a part at which the reader is stuck
stuck_no : (part : Part) (front left others : Row) (rs : List Taken) → IsStuck part front left → IsLike left others
    → Derives part (front ++ others) rs → ⊥
stuck_no part [] left others rs (nothing n e) l d = go part others rs n (chosen_like part left others l e) d
  where
    go : (q : Part) (x : Row) (rs : List Taken) → q ≢ p.Finished → chosen_at q x ≡ None → Derives q x rs → ⊥
    go _ _ _ n e finished = n refl
    go _ _ _ n e (goes h a d) = cc
stuck_no part front left others rs (inside {rule = rule} {old = old} e s) l d =
    let b = first_of rule part old front left e s in
    go part b.token b.more b.front b.chosen (front ++ others) rs refl d
  where
    go : (w : Part) (t : Token) (ts : Row) → front ≡ t ∷ ts → chosen w t.text ≡ Some rule
        → (all : Row) (rs : List Taken) → all ≡ front ++ others → Derives w all rs → ⊥
    go _ t ts f c _ _ q finished = let k : [] ≡ t ∷ (ts ++ others) = subst (λ x. [] ≡ x ++ others) f q in cc
    go w t ts f c _ _ q (goes {rule = rule2} {t = u} {ts = us} {rest = later} h a d) =
        let k : u ∷ (us ++ later) ≡ t ∷ (ts ++ others) = subst (λ x. u ∷ (us ++ later) ≡ x ++ others) f q in
        let same : u ≡ t = cc in
        let is : Some rule2 ≡ Some rule = sym h ∙ (ap (λ x. chosen w x.text) same ∙ c) in
        let r : rule2 ≡ rule = cc in
        no_fit s.done s.later s.field (u ∷ us) front later others
        (subst (λ x. AllFit x (u ∷ us)) s.parts (subst (λ x. AllFit (fields x) (u ∷ us)) r a)) s.fit q (unfit_like s.field left others l s.unfit)

-- a file goes on from what was read
stuck_rest : (part : Part) (front left : Row) → IsStuck part front left → Rest part front
stuck_rest part [] left (nothing n e) = let k = ends part in record { row = k.row; rules = k.rules; derives = k.derives }
stuck_rest part front left (inside {rule = rule} {old = old} e s) =
    let b = first_of rule part old front left e s in
    subst (Rest part) (sym b.front) (rest part rule b.token b.more s.done (s.field ∷ s.later) b.chosen s.parts (subst (AllFit s.done) b.front s.fit))

-- ---- what is told

-- where rules stop at a token of a text, the first token out of place stands on its line
pub misplaced : (bytes : List ℕ) (new : Row) (line : ℕ) → AreStopped (tokens bytes) new
    → line ≡ line_of new (last_line bytes) → IsOutOfPlace bytes line
misplaced bytes new line h e =
    let k = stuck_rest h.part h.front new h.stuck in
    let front = all_found h.rules ++ h.front in
    let split : tokens bytes ≡ front ++ new = h.split ∙ sym (append_assoc (all_found h.rules) h.front new) in
    record {
      front = front;
      after = new;
      split = split;
      place = e;
      begins = record {
        more = k.row;
        rules = h.rules ++ k.rules;
        derives =
            subst (λ x. Derives p.Start x (h.rules ++ k.rules)) (sym (append_assoc (all_found h.rules) h.front k.row))
            (lead_on h.rules h.part (h.front ++ k.row) k.rules h.leads k.derives);
      };
      bad = λ t more is b.
          let a : (front ++ t ∷ []) ++ b.more ≡ all_found h.rules ++ (h.front ++ t ∷ b.more) =
          append_assoc front (t ∷ []) b.more ∙ append_assoc (all_found h.rules) h.front (t ∷ b.more) in
          let o = cancel h.rules h.part (h.front ++ t ∷ b.more) b.rules h.leads (subst (λ x. Derives p.Start x b.rules) a b.derives) in
          stuck_no h.part h.front new (t ∷ b.more) o.more h.stuck (subst (λ x. IsLike x (t ∷ b.more)) (sym is) refl) o.derives;
      no_text = λ f g.
          let o = cancel h.rules h.part (h.front ++ new) g.rules h.leads (subst (λ x. Derives p.Start x g.rules) h.split g.derives) in
          stuck_no h.part h.front new new o.more h.stuck (itself new) o.derives;
    }
  where
    itself : (x : Row) → IsLike x x
    itself [] = tt
    itself (t ∷ ts) = refl

none_finished : (t : Token) (ts : Row) (rs : List Taken) → Derives p.Finished (t ∷ ts) rs → ⊥
unfolding chosen
none_finished t ts rs d = go p.Finished (t ∷ ts) rs refl refl d
  where
    go : (q : Part) (x : Row) (rs : List Taken) → q ≡ p.Finished → x ≡ t ∷ ts → Derives q x rs → ⊥
    go _ _ _ e f finished = cc
    go _ _ _ e f (goes {t = u} h a d) = let k : None ≡ Some _ = sym (ap (λ y. chosen y u.text) e) ∙ h in cc

-- more tokens after a whole file
pub after_all : (bytes : List ℕ) (t : Token) (ts : Row) (line : ℕ) (d : Draft) → AreTaken (tokens bytes) (t ∷ ts) d
    → line ≡ t.line → IsOutOfPlace bytes line
after_all bytes t ts line d h e = record {
  front = all_found h.rules;
  after = t ∷ ts;
  split = h.split;
  place = e;
  begins = record { more = []; rules = h.rules ++ []; derives = lead_on h.rules p.Finished [] [] h.leads finished };
  bad = λ u more is b.
      let o =
      cancel h.rules p.Finished (u ∷ b.more) b.rules h.leads
      (subst (λ x. Derives p.Start x b.rules) (append_assoc (all_found h.rules) (u ∷ []) b.more) b.derives) in
      none_finished u b.more o.more o.derives;
  no_text = λ f g.
      let o = cancel h.rules p.Finished (t ∷ ts) g.rules h.leads (subst (λ x. Derives p.Start x g.rules) h.split g.derives) in
      none_finished t ts o.more o.derives;
}

-- a text of which rules take all tokens is one of the file that they declare
pub whole : (bytes : List ℕ) (d : Draft) → AreTaken (tokens bytes) [] d → IsFile bytes d.file
whole bytes d h = record {
  rules = h.rules ++ [];
  derives = subst (λ x. Derives p.Start x (h.rules ++ [])) (sym h.split) (lead_on h.rules p.Finished [] [] h.leads finished);
  same = ap (λ x. x.file) h.draft ∙ ap file_of (sym (append-nil h.rules));
}

-- the reader's next token is after a whole file, or there is none
pub next_after : (bytes : List ℕ) (old new : Row) (t : r.VerilogToken) (d : Draft)
    → old ≡ tokens bytes → AreTaken old new d → maybe_token_view (Some t) ≡ first new → IsOutOfPlace bytes t.line
next_after bytes old [] t d o h e = cc
next_after bytes old (u ∷ us) t d o h e =
    let k : token_view t ≡ u = cc in
    after_all bytes u us t.line d (subst (λ x. AreTaken x (u ∷ us) d) o h) (ap (λ x. x.line) k)

-- a text is one of the file that rules declare, where they leave no token
pub none_after : (bytes : List ℕ) (old new : Row) (d : Draft)
    → old ≡ tokens bytes → AreTaken old new d → None ≡ first new → IsFile bytes d.file
none_after bytes old [] d o h e = whole bytes d (subst (λ x. AreTaken x [] d) o h)
none_after bytes old (u ∷ us) d o h e = cc

-- where the reader stops at a token, the first token out of place stands on its line
pub stopped_there : (bytes : List ℕ) (old new : Row) (line : ℕ)
    → old ≡ tokens bytes → AreStopped old new → line ≡ line_of new (last_line bytes) → IsOutOfPlace bytes line
stopped_there bytes old new line o h e = misplaced bytes new line (subst (λ x. AreStopped x new) o h) e

-- ---- one file, one place

one_list : (part : Part) (ts : Row) (a b : List Taken) → Derives part ts a → Derives part ts b → a ≡ b
one_list _ _ _ b finished d = go b refl refl d
  where
    go : {q : Part} {x : Row} (b : List Taken) → q ≡ p.Finished → x ≡ [] → Derives q x b → [] ≡ b
    go _ e f finished = refl
    go _ e f (goes h a d) = cc
one_list part _ _ b (goes {rule = rule} {t = t} {ts = ts} {rest = rest} {more = more1} h a d) k =
    let c : Comes part (record { rule = rule; found = t ∷ ts }) = record { token = t; more = ts; found = refl; chosen = h; fit = a } in
    let o = come_off part (record { rule = rule; found = t ∷ ts }) rest b (t ∷ ts ++ rest) c refl k in
    ap (λ x. record { rule = rule; found = t ∷ ts } ∷ x) (one_list (next rule) rest more1 o.more d o.derives) ∙ sym o.rules

-- a text is one of at most one file
pub one_file : (bytes : List ℕ) (f g : File) → IsFile bytes f → IsFile bytes g → f ≡ g
one_file bytes f g h k = h.same ∙ (ap file_of (one_list p.Start (tokens bytes) h.rules k.rules h.derives k.derives) ∙ sym k.same)

front_begins : (xs ys : Row) → Begins (xs ++ ys) → Begins xs
front_begins xs ys b = record { more = ys ++ b.more; rules = b.rules; derives = subst (λ x. Derives p.Start x b.rules) (append_assoc xs ys b.more) b.derives }

not_before : (bytes : List ℕ) (n m : ℕ) (h : IsOutOfPlace bytes n) (i : IsOutOfPlace bytes m) → length h.after < length i.after → ⊥
not_before bytes n m h i le =
    let k = longer h.front h.after i.front i.after (sym h.split ∙ i.split) le in
    i.bad k.t (k.more ++ h.after) k.after
    (front_begins (i.front ++ k.t ∷ []) k.more (subst Begins (k.front ∙ sym (append_assoc i.front (k.t ∷ []) k.more)) h.begins))

one_place : (bytes : List ℕ) (n m : ℕ) → IsOutOfPlace bytes n → IsOutOfPlace bytes m → n ≡ m
one_place bytes n m h i =
    let le : length h.after ≡ length i.after = grind (arith, not_before bytes n m h i, not_before bytes m n i h) in
    h.place ∙ (ap (λ b. line_of b (last_line bytes)) (same_after h.front h.after i.front i.after (sym h.split ∙ i.split) le) ∙ sym i.place)

-- ---- what the reader answers

-- where a text is one of a file, the answer is that file, unless memory ran out
pub judged_only : (bytes : List ℕ) (x : Result File VerilogError) (f : File) → Judges bytes x → IsFile bytes f → GivesFile f x
judged_only bytes (Ok g) f h k = one_file bytes g f h k
judged_only bytes (Err (Misplaced line)) f h k = h.no_text f k
judged_only bytes (Err NoMemory) f h k = tt

-- where a text is out of place at a line, the answer is that line, unless memory ran out
pub judged_exact : (bytes : List ℕ) (x : Result File VerilogError) (line : ℕ) → Judges bytes x → IsOutOfPlace bytes line → GivesLine line x
judged_exact bytes (Ok g) line h k = k.no_text g h
judged_exact bytes (Err (Misplaced n)) line h k = one_place bytes n line h k
judged_exact bytes (Err NoMemory) line h k = tt

-- a refusal is at the line of the first token out of place
pub judged_refused : (bytes : List ℕ) (x : Result File VerilogError) → Judges bytes x → IsRefused bytes x
judged_refused bytes (Ok g) h = tt
judged_refused bytes (Err (Misplaced n)) h = h
judged_refused bytes (Err NoMemory) h = tt
