-- The netlist of a whole pipe shows in each cycle what the machine shows, with its delayed memories outside.
use Rattle.std.proofs.Common.{◌≡◌, refl, sym, ap, ap₂, ◌∙◌, subst, ℕ, suc, ◌+◌, ◌^◌, ◌<◌, ◌≤◌, Bool, true, false, List, [], ◌∷◌, ◌++◌, length, map, take, Option, Some, None, codes, arith}
use Rattle.std.specs.Prelude.{if◌then◌else◌, slice_index, slice_index_or, filter_map}
use Rattle.std.proofs.lemmas.List.{length-take}
use Rattle.std.proofs.lemmas.List.Elements.{filter_map-append}
use Rattle.pdl_semantics.specs.Flat.{Arrays, Mem, Pipe, arrays_of, is_delayed}
use Rattle.pdl_semantics.specs.Stages.{mem_at, reply_place}
use Rattle.pdl_semantics.specs.Locks.{commit_value}
use Rattle.pdl_semantics.specs.Machine as machine
use Rattle.pdl_semantics.specs.Machine.{Pending, NoRequest, is_answered, request_of}
use Rattle.pdl_semantics.specs.Moves.{all_acts}
use Rattle.pdl_semantics.specs.Cycle.{first, cycle, state_after, turns_from, is_wait, all_releases, taken_out, port_writes, list_two, asked_in, waits_from}
use Rattle.pdl_semantics.specs.Cycle as stated
use Rattle.pdl_semantics.specs.SecondWrites.{reserves_twice}
use Rattle.pdl_net.specs.declared.Netlist.{Netlist}
use Rattle.pdl_net.specs.declared.Dir.TheVariants.{In}
use Rattle.pdl_net.specs.Circuit.{Circuit, State, Output, circuit_of, inputs_of, port_input}
use Rattle.pdl_net.specs.Signal.{Signal, input_value}
use Rattle.pdl_net.specs.Cycle.{output_values}
use Rattle.pdl_net.specs.Well.{IsWell, Suits}
use Rattle.pdl_net.specs.Holds.{Holds}
use Rattle.pdl_net.specs.Run as net_run
use Rattle.pdl_net.specs.Run.{Held, delayed_mems, state_in}
use Rattle.pdl_net.proofs.Bounds.{bounded}
use Rattle.pdl_net.proofs.Holds.{next_holds}
use Rattle.pdl_image.specs.Images.{IsImage}
use Rattle.pdl_machine_facts.specs.Slots.{moving}
use Rattle.pdl_law_parts.specs.Walk.{Locks, is_locked}
use Rattle.pdl_law_parts.specs.Views.{View, Gates}
use Rattle.pdl_law_parts.specs.Compiled.{port_in}
use Rattle.pdl_law_parts.specs.Runs.{Seen, seen_of}
use Rattle.pdl_law_parts.specs.Stands.{IsSeen, IsSquashed}
use Rattle.pdl_law_parts.proofs.StageLooks.{plain_is}
use Rattle.pdl_law_parts.specs.Served.{at_most}
use Rattle.pdl_law_parts.proofs.LinesPorts.{put_in, later}
use Rattle.pdl_machine_inflight.specs.Readings.{reading}
use Rattle.pdl_law_sides.specs.Sides.{Sides}
use Rattle.pdl_law_follows.specs.StandingStates.{IsLawful, IsKnown}
use Rattle.pdl_law_follows.specs.Outside.{AreStores}
use Rattle.pdl_law_sides.specs.WholeNetlist.{IsNet, FitsOutside, IsWhole, reply_ports, in_order, replies_of, whole_had, HasWholeMems, ShowsWhole}
use Rattle.pdl_law_parts.specs.Places.{delayed_count}
use Rattle.pdl_law_follows.proofs.PortSides.{IsGiven}
use Rattle.pdl_law_follows.proofs.PortsNext.{address_or}
use Rattle.pdl_law_follows.proofs.WholeCycle.{WholeStands, seen_whole, squashed_whole, whole_next}
use Rattle.pdl_law_follows.proofs.Stores.{delayed_in, counted, ReadsStore, inputs_read, input_widths, inputs_fit}
use Rattle.pdl_law_follows.proofs.OutputNames.{Apart}
use Rattle.pdl_law_follows.proofs.WholeOutputs.{ShowsPut, puts_at, request_at, commit_named, commit2_named, no_commit, no_commit2, request_named, whole_shows}
use Rattle.pdl_law_follows.proofs.NextStores.{AreFit, Replied, waits_are, quiet_next, StepsTo, stores_next}
use Rattle.pdl_semantics.proofs.Facts.{after_more}

-- INPUTS

widths_of : (names : ℕ → List ℕ) (m : ℕ) (xs : List Mem) → filter_map port_input (reply_ports names m xs) ≡ input_widths xs
widths_of names m [] = refl
widths_of names m (x ∷ xs) = at (is_delayed x.kind) (widths_of names (suc m) xs)
  where
    at : (b : Bool) → filter_map port_input (reply_ports names (suc m) xs) ≡ input_widths xs
        → filter_map port_input
        ((if b
        then record { name = codes "p_" ++ names m; width = 1; dir = In } ∷ record { name = codes "pd_" ++ names m; width = x.width; dir = In } ∷ []
        else [])
        ++ reply_ports names (suc m) xs)
        ≡ (if b then 1 ∷ x.width ∷ [] else []) ++ input_widths xs
    at false e = e
    at true e = ap (λ ws. 1 ∷ x.width ∷ ws) e

no_inputs : (c : Circuit) (outs : List Output) → filter_map port_input (map (port_in c) outs) ≡ []
no_inputs c [] = refl
no_inputs c (o ∷ outs) = no_inputs c outs

module _ (p : Pipe) (names : ℕ → List ℕ) (apart : Apart names (length p.mems)) (lawful : IsLawful p)
    (known : (image : Arrays) (before : List (List Bool)) (bits : List Bool) → IsKnown p (state_after p (first p image) before) bits)
    (ls : Locks) (vs : ℕ → View) (gates : Gates) (moves : ℕ → Signal) (sides : Sides) (n : Netlist)
    (made : IsWhole p names ls vs gates moves sides (circuit_of n)) (well : IsWell (circuit_of n)) (mems : HasWholeMems p names ls n) where
  abbrev c : Circuit
  c = circuit_of n

  inputs_are : inputs_of (circuit_of n) ≡ input_widths p.mems
  inputs_are =
      ap (filter_map port_input) made.ports ∙ filter_map-append port_input (reply_ports names 0 p.mems) (map (port_in (circuit_of n)) made.outs)
      ∙ ap₂ (λ a b. a ++ b) (widths_of names 0 p.mems) (no_inputs (circuit_of n) made.outs) ∙ Rattle.std.proofs.Common.append-nil (input_widths p.mems)

  -- the machine's replies of a cycle
  abbrev bits_of : ℕ → List Bool
  bits_of b = replies_of (delayed_count p) b

  replied : (b : ℕ) → Replied p (replies_of (delayed_count p) b) 0 p.mems b
  replied b i l d =
      ap (λ j. is_answered p (replies_of (delayed_count p) b) j) (let z : 0 + i ≡ i = omega arith in z)
      ∙ ap₂ (λ k j. slice_index_or (replies_of k b) j false) (sym (counted p.mems)) (sym (counted (take i p.mems)))

  -- what holds of a netlist and of the machine on the way from this image
  module _ (image : Arrays) where
    -- what the netlist holds stands for a state to which the machine comes from this image, whatever is replied next
    pub record IsStanding (h : Held) (st : machine.State) : Type 0 where
      pub before : List (List Bool)
      pub reached : st ≡ state_after p (first p image) before
      pub holds : Holds (circuit_of n) h.regs h.arrays
      pub stores : AreStores st 0 p.mems h.stores
      pub quiet : (m : ℕ) → m < length p.mems → reading p m ≡ None → request_of st m ≡ NoRequest
      pub whole : (b : ℕ) → Suits (circuit_of n) (state_in h b) → WholeStands p ls vs sides (state_in h b) st

    module _ (h : Held) (st : machine.State) (x : IsStanding h st) (b : ℕ) where
      abbrev s : State
      s = state_in h b

      abbrev bits : List Bool
      bits = replies_of (delayed_count p) b

      -- the state of this cycle suits the circuit
      pub suits : Suits (circuit_of n) (state_in h b)
      suits =
          let f = inputs_fit st 0 p.mems h.stores b x.stores in
          record {
            input_count = f.0 ∙ ap length (sym inputs_are);
            inputs =
                λ i l. subst (λ ws. slice_index (Rattle.pdl_net.specs.Run.answers h.stores b) i < 2 ^ slice_index ws i)
                (sym inputs_are) (f.1 i (subst (λ ws. i < length ws) inputs_are l));
            reg_count = x.holds.reg_count;
            regs = x.holds.each;
            array_count = x.holds.array_count;
            depth = x.holds.depth;
            words = x.holds.words;
          }

      -- what is known of each cycle of the machine is known of this one with its replies
      pub knows : IsKnown p st (replies_of (delayed_count p) b)
      knows = subst (λ y. IsKnown p y (replies_of (delayed_count p) b)) (sym x.reached) (known image x.before (replies_of (delayed_count p) b))

      reads_at : (m : ℕ) → m < length p.mems → is_delayed (mem_at p m).kind ≡ true
          → ReadsStore st m (replies_of (delayed_count p) b) (Rattle.pdl_net.specs.Run.answers h.stores b) (reply_place p m)
      reads_at m l d =
          let r = inputs_read st 0 p.mems h.stores b x.stores m l d in
          subst (λ j. ReadsStore st m (replies_of (delayed_count p) b) (Rattle.pdl_net.specs.Run.answers h.stores b) j) (counted (take m p.mems))
          (subst (λ k. ReadsStore st m (replies_of k b) (Rattle.pdl_net.specs.Run.answers h.stores b) (delayed_in (take m p.mems))) (counted p.mems)
          (subst (λ j. ReadsStore st j (replies_of (delayed_in p.mems) b) (Rattle.pdl_net.specs.Run.answers h.stores b) (delayed_in (take m p.mems)))
          (let z : 0 + m ≡ m = omega arith in z) r))

      given : IsGiven p sides (state_in h b) st (replies_of (delayed_count p) b)
      unfolding input_value
      given m r is =
          let k = lawful.reads.known m r is in
          let o = made.outside m k.0 k.1 in
          let y = reads_at m k.0 k.1 in
          record {
            reply = o.reply (state_in h b) suits ∙ y.reply;
            word = λ e. o.word (state_in h b) suits ∙ y.word e;
          }

      -- each stage is seen in this cycle to be as the machine's
      pub seen : (j : ℕ) → j < length p.stages → IsSeen p vs moves (state_in h b) st (replies_of (delayed_count p) b) j
      seen =
          seen_whole p lawful ls vs gates moves sides (circuit_of n) made.laid made.beside (state_in h b) st
          (replies_of (delayed_count p) b) suits knows (x.whole b suits) given

      -- the squash of this cycle is as the machine's
      pub squashed : IsSquashed p ls vs gates (state_in h b) st (replies_of (delayed_count p) b)
      squashed =
          squashed_whole p lawful ls vs gates moves sides (circuit_of n) made.laid made.beside (state_in h b) st
          (replies_of (delayed_count p) b) suits knows (x.whole b suits) given

      -- the cycle is a wait of both
      waits : net_run.some_waits h.stores b ≡ is_wait p st (replies_of (delayed_count p) b)
      waits =
          waits_are p st (replies_of (delayed_count p) b) 0 p.mems h.stores b x.stores (replied b)
          (λ i l d. ap (request_of st) (let z : 0 + i ≡ i = omega arith in z) ∙ x.quiet i l (unread i l d))
          ∙ ap (waits_from p (replies_of (delayed_count p) b) 0) (sym knows.flight.listed)
        where
          unread : (i : ℕ) → i < length p.mems → is_delayed (mem_at p i).kind ≡ false → reading p i ≡ None
          unread i l d = at (reading p i) refl
            where
              at : (o : Option Rattle.pdl_machine_inflight.specs.Readings.Reading) → reading p i ≡ o → reading p i ≡ None
              at None e = e
              at (Some r) e = absurd (cc (sym d ∙ (lawful.reads.known i r e).1))

      -- the ports of the netlist show in the cycle what the machine's do
      pub shows_here : seen_of (net_run.shown_ports n h b)
          ≡ whole_had p
          (record { ports = stated.ports p st (all_acts p st (replies_of (delayed_count p) b)); wait = is_wait p st (replies_of (delayed_count p) b) })
      shows_here =
          ap₂ (λ ps w. record { ports = ps; wait = w })
          (whole_shows p names apart lawful ls vs gates moves sides (circuit_of n) made (state_in h b) st
          (replies_of (delayed_count p) b) suits knows (x.whole b suits).stands seen squashed) waits

      -- what each delayed memory commits and is asked
      steps : (m : ℕ) → m < length p.mems → is_delayed (mem_at p m).kind ≡ true
          → StepsTo p lawful st (replies_of (delayed_count p) b) knows (circuit_of n) (state_in h b) names m
      steps m l d = record {
        commit = at (is_locked p m) refl;
        commit2 = at2 (is_locked p m) refl;
        request =
            request_named p names apart lawful ls vs gates moves sides (circuit_of n) made (state_in h b) st
            (replies_of (delayed_count p) b) suits knows (x.whole b suits).stands seen squashed m l d;
        wide = wide (is_locked p m) refl;
        low = λ a f. low a f;
      }
        where
          none : is_locked p m ≡ false → taken_out st (moving p st (replies_of (delayed_count p) b)) m ≡ []
          none e = ap (λ k. take k (list_two st (moving p st (replies_of (delayed_count p) b)) m)) (knows.used.in_use.unreleased m (plain_is p m e))

          at : (t : Bool) → is_locked p m ≡ t
              → net_run.commit_of (circuit_of n) (output_values (circuit_of n) (state_in h b)) (names m)
              ≡ put_in (port_writes (taken_out st (moving p st (replies_of (delayed_count p) b)) m))
          at true e =
              commit_named p names apart lawful ls vs gates moves sides (circuit_of n) made (state_in h b) st
              (replies_of (delayed_count p) b) suits knows (x.whole b suits).stands seen squashed m l e
          at false e =
              no_commit p names apart lawful ls vs gates moves sides (circuit_of n) made (state_in h b) st
              (replies_of (delayed_count p) b) suits knows (x.whole b suits).stands seen squashed m l e
              ∙ ap (λ o. put_in (port_writes o)) (sym (none e))

          at2 : (t : Bool) → is_locked p m ≡ t
              → net_run.commit2_of (circuit_of n) (output_values (circuit_of n) (state_in h b)) (names m)
              ≡ put_in (later (port_writes (taken_out st (moving p st (replies_of (delayed_count p) b)) m)))
          at2 true e =
              commit2_named p names apart lawful ls vs gates moves sides (circuit_of n) made (state_in h b) st
              (replies_of (delayed_count p) b) suits knows (x.whole b suits).stands seen squashed m l e
          at2 false e =
              no_commit2 p names apart lawful ls vs gates moves sides (circuit_of n) made (state_in h b) st
              (replies_of (delayed_count p) b) suits knows (x.whole b suits).stands seen squashed m l e
              ∙ ap (λ o. put_in (later (port_writes o))) (sym (none e))

          -- a committed word is that of a net, which fits
          fits_net : (f : Signal) (v : ℕ) → IsNet (circuit_of n) f → f.width ≡ (mem_at p m).width → f.value (state_in h b) ≡ v
              → v < 2 ^ (mem_at p m).width
          fits_net f v net wide e =
              let bound = (bounded (circuit_of n) (state_in h b) well suits net.0 net.1).fits in
              let bound' : f.value (state_in h b) < 2 ^ f.width = subst (λ (y : Signal). y.value (state_in h b) < 2 ^ y.width) net.2 bound in
              subst (λ k. k < 2 ^ (mem_at p m).width) e (subst (λ k. f.value (state_in h b) < 2 ^ k) wide bound')

          wide : (t : Bool) → is_locked p m ≡ t → AreFit (mem_at p m) (taken_out st (moving p st (replies_of (delayed_count p) b)) m)
          wide false g = subst (AreFit (mem_at p m)) (sym (none g)) tt
          wide true g = each (taken_out st (moving p st (replies_of (delayed_count p) b)) m) shows.0 (reserves_twice m p.stmts) refl shows.1 few
            where
              fits : FitsOutside p (circuit_of n) (made.asks m) (made.laid.commits m) m
              fits = made.fits m l d

              shows : ShowsPut (state_in h b) (made.laid.commits m).first (port_writes (taken_out st (moving p st (replies_of (delayed_count p) b)) m))
                  × (reserves_twice m p.stmts ≡ true
                  → ShowsPut (state_in h b) (made.laid.commits m).second
                  (later (port_writes (taken_out st (moving p st (replies_of (delayed_count p) b)) m))))
              shows =
                  puts_at p names apart lawful ls vs gates moves sides (circuit_of n) made (state_in h b) st
                  (replies_of (delayed_count p) b) suits knows (x.whole b suits).stands seen squashed m g

              few : length (taken_out st (moving p st (replies_of (delayed_count p) b)) m) ≤ at_most p m
              few =
                  let gone = all_releases m (moving p st (replies_of (delayed_count p) b)) in
                  let long = length-take gone (list_two st (moving p st (replies_of (delayed_count p) b)) m) in
                  let most = knows.used.released m l in
                  omega (arith, long, most)

              each : (es : List Pending) → ShowsPut (state_in h b) (made.laid.commits m).first (port_writes es) → (t : Bool) → reserves_twice m p.stmts ≡ t
                  → (reserves_twice m p.stmts ≡ true → ShowsPut (state_in h b) (made.laid.commits m).second (later (port_writes es)))
                  → length es ≤ (if t then 2 else 1) → AreFit (mem_at p m) es
              each [] first t twice second few = tt
              each (e ∷ []) first t twice second few =
                  (fits_net (made.laid.commits m).first.value (commit_value e.value) (fits.word g).0 (fits.wide g).0 first.word, tt)
              each (e ∷ f ∷ []) first false twice second few = absurd (omega (arith, few))
              each (e ∷ f ∷ []) first true twice second few = (
                fits_net (made.laid.commits m).first.value (commit_value e.value) (fits.word g).0 (fits.wide g).0 first.word,
                (fits_net (made.laid.commits m).second.value (commit_value f.value) (fits.word g).1 (fits.wide g).1 (second twice).word, tt),
              )
              each (e ∷ f ∷ k ∷ es) first false twice second few = absurd (omega (arith, few))
              each (e ∷ f ∷ k ∷ es) first true twice second few = absurd (omega (arith, few))

          low : (a : ℕ) → asked_in (moving p st (replies_of (delayed_count p) b)) m ≡ Some a → a < (mem_at p m).depth
          low a f =
              let fits = made.fits m l d in
              let net = fits.addr in
              let asked =
              (request_at p names apart lawful ls vs gates moves sides (circuit_of n) made (state_in h b) st
              (replies_of (delayed_count p) b) suits knows (x.whole b suits).stands seen squashed m l d).1
              ∙ ap address_or f in
              let bound = (bounded (circuit_of n) (state_in h b) well suits net.0 net.1).fits in
              let bound' : (made.asks m).addr.value (state_in h b) < 2 ^ (made.asks m).addr.width =
              subst (λ (y : Signal). y.value (state_in h b) < 2 ^ y.width) net.2 bound in
              subst (λ k. k < (mem_at p m).depth) asked (subst (λ k. (made.asks m).addr.value (state_in h b) < k) fits.reach bound')

      -- the next cycle begins with a state that stands for the machine's
      pub stands_next : IsStanding (net_run.next n h b) (cycle p st (replies_of (delayed_count p) b))
      stands_next = record {
        before = x.before ++ replies_of (delayed_count p) b ∷ [];
        reached = ap (λ y. cycle p y (replies_of (delayed_count p) b)) x.reached ∙ sym (after_more p (first p image) x.before (replies_of (delayed_count p) b));
        holds = next_holds (circuit_of n) (state_in h b) well suits;
        stores =
            stores_next p lawful st (replies_of (delayed_count p) b) knows (circuit_of n)
            (state_in h b) names 0 p.mems (delayed_mems n) h.stores b (omega arith)
            (λ i l. ap (mem_at p) (let z : 0 + i ≡ i = omega arith in z)) mems.named x.stores (replied b)
            (λ i l d. subst (StepsTo p lawful st (replies_of (delayed_count p) b) knows (circuit_of n) (state_in h b) names)
            (let z : i ≡ 0 + i = omega arith in z) (steps i l d));
        quiet = λ m l e. quiet_next p lawful st (replies_of (delayed_count p) b) knows m l e (x.quiet m l e);
        whole =
            λ k fits. whole_next p lawful ls vs gates moves sides (circuit_of n) made.laid made.beside (state_in h b) st
            (replies_of (delayed_count p) b) suits knows (x.whole b suits) given
            (state_in (net_run.next n h b) k) fits refl refl;
      }

    -- from a state that stands for one of a run on, each cycle shows the machine's
    pub shows_from : (schedule : List ℕ) (h : Held) (st : machine.State) → IsStanding h st
        → map seen_of (net_run.nports_from n h schedule) ≡ map (whole_had p) (turns_from p st (map (replies_of (delayed_count p)) schedule))
    shows_from [] h st x = refl
    shows_from (b ∷ schedule) h st x =
        ap₂ (λ (y : Seen) (ys : List Seen). y ∷ ys) (shows_here h st x b)
        (shows_from schedule (net_run.next n h b) (cycle p st (replies_of (delayed_count p) b)) (stands_next h st x b))

  -- a netlist whose start stands for the machine's shows it from each image and with each schedule
  pub shows_whole :
      ((image : List (List ℕ)) → IsImage n.mems image
      → IsStanding (arrays_of (in_order p image)) (net_run.start n image) (first p (arrays_of (in_order p image))))
      → ShowsWhole p n
  shows_whole starts image schedule is_image =
      shows_from (arrays_of (in_order p image)) schedule (net_run.start n image) (first p (arrays_of (in_order p image))) (starts image is_image)
