-- the theorem, put together: an index over lent memory behaves as a plain map
use Rattle.std.proofs.Common.{◌≡◌, ℕ, ◌-◌, ◌<◌, ◌≤◌, Bool, true, false, List, [], ◌∷◌, map, length, set, Some, sym, refl, ap, ◌∙◌, subst, zero-add, arith, length-set}
use Rattle.std.specs.List.{slice_get, AllByRecursion}
use Rattle.std.proofs.lemmas.List.{length-map}
use Rattle.std.proofs.lemmas.Option.{same_Some}
use Rattle.std.proofs.lemmas.Bool.{lt-ltb}
use Rattle.keys.specs.Order.{Lawful}
use Rattle.image.specs.declared.entry.Entry.{Entry}
use Rattle.nodes.specs.declared.node.Item.{Item}
use Rattle.nodes.specs.Build.{puts}
use Rattle.nodes.specs.Items.{ascends, lookup}
use Rattle.nodes.proofs.ItemLists.{ascending_from}
use Rattle.bwtree.specs.declared.call.Call.{Call}
use Rattle.bwtree.specs.declared.seat.Seat.{Seat}
use Rattle.bwtree.specs.declared.sizes.Sizes.{Sizes}
use Rattle.bwtree.specs.Calls.{call as call_in}
use Rattle.bwtree.specs.Memory.{Memory, Outcome}
use Rattle.bwtree.specs.Reports.{capped}
use Rattle.bwtree.specs.Steps.{fits, lawful_sizes}
use Rattle.index.specs.Images.{entries_held, entry_of}
use Rattle.index.specs.Loads.{frame_at, fresh_seat, has_room, index_over, item_of, leaves_for, separators_from, slot_at}
use Rattle.pool.specs.Free.{freed}
use Rattle.laws.specs.Calls.{Event, after, call, run}
use Rattle.laws.specs.Histories.{Between, InOrder, Opens, Operation, Placed, Timed, ended_operations, failed_by, installed_by_others, operations, weigh}
use Rattle.laws.specs.Maps.{Gives, Holds, Plain, asked, fill}
use Rattle.laws.specs.Theorem.{ActsAsMap, Along, all_items, changing, impossible, start}
use Rattle.laws.specs.Worlds.{World}
use Rattle.laws.proofs.Acting.{acts_as_map}
use Rattle.laws.proofs.Leaves.{along, contents}
use Rattle.laws.proofs.Starting.{start_invariant}
use Rattle.laws.proofs.Unchanged.{call_same}
use Rattle.refinement.specs.Beginning.{StandsFor, at_rest}
use Rattle.refinement.proofs.LoadedParts.{first_part, other_parts}
use Rattle.refinement.proofs.Granting.{telling}
use Rattle.refinement.specs.Service.{installed_by, without_memory}
use Rattle.refinement.specs.Stands.{IndexStands, Stands, TrueReport, map_of}
use Rattle.refinement.proofs.Accounting.{accounted_start}
use Rattle.refinement.proofs.Along.{entries_are}
use Rattle.refinement.proofs.Calling.{four_seats}
use Rattle.refinement.proofs.Counters.{counters}
use Rattle.refinement.proofs.Lengths.{SameLengths, long_fits}
use Rattle.refinement.proofs.Loaded.{loaded_index_follows}
use Rattle.refinement.proofs.Numbered.{length_numbered}
use Rattle.refinement.proofs.Parting.{start_fits, start_items, start_slots}
use Rattle.refinement.proofs.Places.{keys_of, length_puts, nth_map, nth_there, values_of}
use Rattle.refinement.proofs.Refusing.{refusal_keeps}
use Rattle.refinement.proofs.Reporting.{report_counts, report_is}
use Rattle.refinement.proofs.Room.{room_enough}
use Rattle.refinement.proofs.Safety.{safe_from}
use Rattle.refinement.proofs.Serving.{Follow, Keeps, call_follows, calls_follow}

module _ {K : Type 0} where
  -- loading keeps the lengths of the arrays
  loaded_lengths : (m : Memory K) (es : List (Entry K)) → SameLengths m (index_over m es)
  loaded_lengths m es =
      let laid = map item_of es in
      let separators = separators_from es 2 (leaves_for (length es) - 1) in
      record {
        slots = length_numbered (slot_at (leaves_for (length es))) 0 m.slots;
        records = length-map m.records freed;
        frames = length_numbered (frame_at es) 0 m.frames;
        keys = length_puts (puts m.keys 64 (keys_of laid)) 1 (keys_of separators) ∙ length_puts m.keys 64 (keys_of laid);
        values = length_puts (set (puts m.values 64 (values_of laid)) 0 1) 1 (values_of separators) ∙ length-set (puts m.values 64 (values_of laid)) 0 1 ∙ length_puts m.values 64 (values_of laid);
      }

  loaded_fits : (z : Sizes) (m : Memory K) (es : List (Entry K)) → fits z m ≡ true → fits z (index_over m es) ≡ true
  loaded_fits z m es e = long_fits z (loaded_lengths m es) (length-map m.seats (λ (x : Seat K). fresh_seat)) ∙ e

  -- entries and items are the same pairs
  items_entries : (xs : List (Item K)) → map item_of (map entry_of xs) ≡ xs
  items_entries [] = refl
  items_entries (x ∷ xs) = ap (λ (ys : List (Item K)). x ∷ ys) (items_entries xs)

-- ---- what holds between calls, as the theorem states it

module _ {K : Type 0} (before : K → K → Bool) (law : Lawful K before) (z : Sizes) (lawful : lawful_sizes z ≡ true) (top : Item K) where
  module _ (m : Memory K) (w : World K) (k : Keeps before law z lawful top m w) where
    abbrev items : List (Item K)
    items = contents before w.leaves

    along_here : Along before w.leaves w.first items
    along_here = along before w.first w.leaves k.invariant.founded.ground k.invariant.founded.tiled

    entries_here : entries_held before m ≡ Some (map entry_of items)
    entries_here = entries_are before top m w k.own k.related k.invariant.founded items along_here

    room_here : has_room z (length (map entry_of items)) ≡ true
    room_here = ap (has_room z) (length-map items entry_of) ∙ room_enough law top m w k.own k.related k.invariant.founded items along_here z k.lengths

  -- a call that does not answer stored or removed leaves the entries
  entries_same : (m : Memory K) (w : World K) (k : Keeps before law z lawful top m w) (c : Call K) (o : Outcome K) → call_in before z m c ≡ Some o → changing o.answer ≡ false → entries_held before o.memory ≡ Some (map entry_of (items m w k))
  entries_same m w k c o e h =
      let f = call_follows before law z lawful top m w k c in
      let same : f.outcome ≡ o = same_Some _ _ (sym f.is ∙ e) in
      let q : changing (call before w f.granted (without_memory c)).answer ≡ false = ap changing (sym f.answer) ∙ ap (λ (x : Outcome K). changing x.answer) same ∙ h in
      ap (λ (x : Outcome K). entries_held before x.memory) (sym same)
      ∙ entries_here f.outcome.memory (call before w f.granted (without_memory c)).world f.keeps
      ∙ ap (λ (ys : List (Item K)). Some (map entry_of ys)) (call_same law w k.invariant (record { granted = f.granted; call = without_memory c }) q)

  -- a report is true, where the seat's counters are those of the history
  true_report : (m : Memory K) (w : World K) → Keeps before law z lawful top m w → (h : List (Event K)) (s : ℕ) → s < 4 → (it : Seat K) → slice_get m.seats s ≡ Some it → it.installed ≡ capped (installed_by s h) → it.failed ≡ capped (failed_by s h) → TrueReport before z m h s
  true_report m w k h s l it at_s i f = record {
    told = telling m it;
    is = rw (k.lengths, lt-ltb s 4 l) (report_is before top m w k.own k.related k.accounted s it at_s);
    installed = i;
    failed = f;
    counts = report_counts before top m w k.own k.related k.accounted it;
  }

-- ---- from a start

module _ {K : Type 0} (before : K → K → Bool) (law : Lawful K before) (z : Sizes) (arrays : Memory K) (es : List (Entry K)) (lawful : lawful_sizes z ≡ true) (lengths : fits z arrays ≡ true)
    (ordered : ascends before (map item_of es) ≡ true) (room : has_room z (length es) ≡ true) where
  abbrev loaded : Memory K
  loaded = index_over arrays es

  abbrev world : World K
  world = start 1 (first_part es) (other_parts es)

  ordered_parts : ascends before (all_items (first_part es) (other_parts es)) ≡ true
  ordered_parts = ap (ascends before) (start_items es) ∙ ordered

  begun : StandsFor before loaded world (at_rest (leaves_for (length es)))
  begun = loaded_index_follows before z arrays es lawful lengths room ordered

  keeps_start : Keeps before law z lawful begun.top loaded world
  keeps_start = record {
    own = at_rest (leaves_for (length es));
    related = begun.related;
    invariant = start_invariant law 1 (first_part es) (other_parts es) (ascending_from before (all_items (first_part es) (other_parts es)) ordered_parts) (start_fits es) (start_slots es);
    lengths = loaded_fits z arrays es lengths;
    accounted = accounted_start arrays es;
    unused = λ s l. refl;
  }

  module _ (cs : List (Call K)) where
    follows : Follow before law z lawful begun.top loaded world cs
    follows = calls_follow before law z lawful begun.top cs loaded world keeps_start

    abbrev history : List (Event K)
    history = follows.served.history

    abbrev memory : Memory K
    memory = follows.served.memory

    abbrev reached : World K
    reached = after before world follows.made

    acts : ActsAsMap before world (λ k. lookup before k (all_items (first_part es) (other_parts es))) follows.made
    acts = acts_as_map before law 1 (first_part es) (other_parts es) ordered_parts (start_fits es) (start_slots es) follows.made

    -- what the history of the index without memory shows, the history of memory shows too
    shown : (P : List (Event K) → Type 0) → P (run before world follows.made) → P history
    shown P p = subst P (sym follows.history) p

    plain : (λ k. lookup before k (all_items (first_part es) (other_parts es))) ≡ map_of before es
    plain = ap {B = Plain K} (λ (ys : List (Item K)) (k : K). lookup before k ys) (start_items es)

    items_are : items before law z lawful begun.top memory reached follows.keeps ≡ acts.items
    items_are = acts.only _ (along_here before law z lawful begun.top memory reached follows.keeps)

    seat_counts : (s : ℕ) → s < 4 → TrueReport before z memory history s
    seat_counts s l =
        let x = nth_there arrays.seats s (omega (arith, four_seats z arrays lengths)) in
        let at_s : slice_get loaded.seats s ≡ Some fresh_seat = nth_map (λ (y : Seat K). fresh_seat) arrays.seats s x.0 x.1 in
        let (y, at_y, i, f) = counters before cs z loaded follows.served follows.is (loaded_fits z arrays es lengths) s fresh_seat at_s 0 0 refl refl in
        true_report before law z lawful begun.top memory reached follows.keeps history s l y at_y (i ∙ ap capped (zero-add (installed_by s history))) (f ∙ ap capped (zero-add (failed_by s history)))

    stands : Stands before z loaded es cs
    stands = record {
      served = follows.served;
      serves = follows.is;
      possible = shown (AllByRecursion (λ (e : Event K). impossible e.answer ≡ false)) acts.possible;
      in_order = shown (λ (h : List (Event K)). InOrder 0 (operations h)) acts.in_order;
      between = shown (λ (h : List (Event K)). AllByRecursion Between (operations h)) acts.between;
      opens = shown (λ (h : List (Event K)). AllByRecursion (Opens h) (operations h)) acts.opens;
      timed = shown (λ (h : List (Event K)). AllByRecursion (Timed h) (operations h)) acts.timed;
      once = shown (λ (h : List (Event K)). (s : ℕ) (f : Operation K → ℕ) → weigh s f (map (λ (p : Placed K). p.operation) (operations h)) ≡ weigh s f (ended_operations h)) acts.once;
      gives = subst (λ (p : Plain K). Gives before p (map asked (operations history))) plain (shown (λ (h : List (Event K)). Gives before (λ k. lookup before k (all_items (first_part es) (other_parts es))) (map asked (operations h))) acts.answers);
      entries = map entry_of (items before law z lawful begun.top memory reached follows.keeps);
      held = entries_here before law z lawful begun.top memory reached follows.keeps;
      pairs =
          subst (λ (p : Plain K). Holds before (fill before p (map asked (operations history))) (map item_of (map entry_of (items before law z lawful begun.top memory reached follows.keeps)))) plain
          (subst (Holds before (fill before (λ k. lookup before k (all_items (first_part es) (other_parts es))) (map asked (operations history)))) (sym (items_entries _ ∙ items_are))
          (shown (λ (h : List (Event K)). Holds before (fill before (λ k. lookup before k (all_items (first_part es) (other_parts es))) (map asked (operations h))) acts.items) acts.pairs));
      room = room_here before law z lawful begun.top memory reached follows.keeps;
      swaps = shown (λ (h : List (Event K)). (s : ℕ) → failed_by s h ≤ installed_by_others s h) acts.swaps;
      accounted = follows.keeps.accounted;
      reports = seat_counts;
      safe = safe_from before begun.top memory reached follows.keeps.own follows.keeps.related;
      keeps = entries_same before law z lawful begun.top memory reached follows.keeps;
      refuses = λ c o r. refusal_keeps before z memory c o r;
    }

-- the theorem
pub index_stands : {K : Type 0} (before : K → K → Bool) → Lawful K before → IndexStands before
index_stands before law z m es st cs =
    subst (λ x. Stands before z x es cs) (sym st.loaded) (stands before law z st.arrays es st.lawful st.lengths st.ordered st.room cs)
