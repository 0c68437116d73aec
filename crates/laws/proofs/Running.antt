-- over whole runs the answers are those of the plain map, and the leaves hold its pairs
use Rattle.std.proofs.Common.{◌≡◌, ℕ, suc, Bool, true, false, cond, ltb, ◌⊎◌, List, [], ◌∷◌, ◌++◌, map, drop, Some, None, Option, Ok, sym, refl, ap, ◌∙◌, subst, inl, inr, append-nil, arith}
use Rattle.std.specs.List.{AllByRecursion}
use Rattle.std.proofs.lemmas.List.{map-append}
use Rattle.std.proofs.lemmas.Option.{none-some, same_Some}
use Rattle.std.proofs.lemmas.Bool.{cond_both, eq-eqb}
use Rattle.keys.specs.Order.{Lawful, same_key}
use Rattle.keys.proofs.Laws.{same_equal}
use Rattle.nodes.specs.declared.node.Kind.TheVariants as kinds
use Rattle.nodes.specs.Items.{lookup}
use Rattle.bwtree.specs.declared.answer.Answer.TheVariants as answers
use Rattle.bwtree.specs.declared.answer.End.{End}
use Rattle.bwtree.specs.declared.answer.End.TheVariants as ends
use Rattle.bwtree.specs.declared.seat.Request.{Request}
use Rattle.bwtree.specs.declared.seat.Request.TheVariants as requests
use Rattle.bwtree.specs.Deltas.{cut}
use Rattle.laws.specs.Chains.{Chain, On, attributes_of, replay, consolidated, upper}
use Rattle.laws.specs.Worlds.{Node, Phase, Idle, LeafWalk, World, Granted, unchanged, find, Call, Begin, Step, Tell}
use Rattle.laws.specs.Acts.{Act, Reads, Fails, Goes, Ends, Replaces, Divides, Roots, Refuses, end_for, value_for, act}
use Rattle.laws.specs.Calls.{ReadLeaf, Installed, Turn, Made, Event, turn, at, placed, divided, perform, begin, is_idle, seat_of, seated, taking, event, run, after}
use Rattle.laws.specs.Histories.{Ended, changes, coming, begun, read_at, moment_at, moments}
use Rattle.laws.specs.Maps.{Plain, Reply, Asked, reply, asked, held, says_of, then_of, next, put, Gives, fill}
use Rattle.laws.specs.Theorem.{impossible}
use Rattle.laws.proofs.Items.{lookup_insert_same, lookup_insert_other, lookup_remove_same, lookup_remove_other}
use Rattle.laws.proofs.Replays.{low, high, size, Within, Sound, CutAt, walk, walked, ascending, cut_parts}
use Rattle.laws.proofs.Leaves.{node, contents, lookup_leaf, contents_change, contents_same, found_tile}
use Rattle.laws.proofs.Standing.{unchanged_chain, Caught, Makes, Stands, Invariant}
use Rattle.laws.proofs.Allowed.{Allowed, act_ok}
use Rattle.laws.proofs.Shapes.{stale, quiet, Settles, Shaped, act_shaped}
use Rattle.laws.proofs.Settling.{reply_of, of_seat, Settled, set_settles, settles}
use Rattle.laws.proofs.Keeping.{call_kept}

module _ {K : Type 0} (before : K → K → Bool) where
  -- the leaves hold the map's pairs
  abbrev pub Pairs : Plain K → World K → Type 0
  Pairs m w = (k : K) → lookup before k (contents before w.leaves) ≡ m k

  -- asked these, the map gives their answers, and is then what the world holds
  pub record Goes_as (m : Plain K) (asks : List (Asked K)) (w : World K) : Type 0 where
    pub gives : Gives before m asks
    pub pairs : Pairs (fill before m asks) w

  -- a quiet answer is the map's, and leaves the map
  quiet_says : (m : Plain K) (r : Request K) (o : Option ℕ) (y : Reply) → quiet r o ≡ Some y → (says_of r o ≡ Some y) × (then_of before m r o ≡ m)
  quiet_says m (requests.Lookup k) None y e = (e, refl)
  quiet_says m (requests.Lookup k) (Some v) y e = (e, refl)
  quiet_says m (requests.Insert k v) None y e = absurd (none-some y e)
  quiet_says m (requests.Insert k v) (Some u) y e = (e, refl)
  quiet_says m (requests.Delete k) None y e = (e, refl)
  quiet_says m (requests.Delete k) (Some v) y e = absurd (none-some y e)
  quiet_says m (requests.Consolidate k) o y e = absurd (none-some y e)
  quiet_says m (requests.Split k) o y e = absurd (none-some y e)
  quiet_says m requests.ConsolidateRoot o y e = absurd (none-some y e)

module _ {K : Type 0} {before : K → K → Bool} (law : Lawful K before) (w : World K) (i : Invariant before w) (m : Plain K) (p : Pairs before m w) where
  on_time : (b : Bool) → ◌≡◌ {A = ℕ} (cond b 0 1) 0 → b ≡ true
  on_time true e = refl
  on_time false e = absurd (omega (arith, e))

  -- what a walk finds in a leaf that is as it was read is what the map holds
  walk_holds : (k : K) (x : Node K) (at : Chain K) → Caught before w x k → walk before k at ≡ walk before k x.chain → unchanged w.leaves x ≡ true → walk before k at ≡ m k
  walk_holds k x at c e u =
      let s = c.snapshot in
      let d = unchanged_chain before w x s u in
      let a : Within before (low s.now.chain) (high s.now.chain) k = rw d c.within in
      e ∙ walked law k x.chain s.sound c.within.fits ∙ ap (λ (b : Chain K). lookup before k (replay before b)) (sym d)
      ∙ sym (lookup_leaf law k x.slot w.leaves s.now i.founded.tiled s.is a) ∙ p k

  read_quiet : (r : Request K) (x : Node K) (at : Chain K) (y : Reply) → Stands before w r (LeafWalk x at) → unchanged w.leaves x ≡ true
      → Settles before r (LeafWalk x at) y → quiet r (held m r) ≡ Some y
  read_quiet (requests.Lookup k) x at y h u e = subst (λ (o : Option ℕ). quiet (requests.Lookup k) o ≡ Some y) (walk_holds k x at h.0 h.1 u) e
  read_quiet (requests.Insert k v) x at y h u e = subst (λ (o : Option ℕ). quiet (requests.Insert k v) o ≡ Some y) (walk_holds k x at h.0 h.1 u) e
  read_quiet (requests.Delete k) x at y h u e = subst (λ (o : Option ℕ). quiet (requests.Delete k) o ≡ Some y) (walk_holds k x at h.0 h.1 u) e
  read_quiet _ x at y h u e = absurd h

  -- what a phase settles that was just read is the map's answer
  settles_quiet : (r : Request K) (q : Phase K) (y : Reply) → Stands before w r q → stale w q ≡ 0 → Settles before r q y → quiet r (held m r) ≡ Some y
  settles_quiet r (LeafWalk x at) y h z e = read_quiet r x at y h (on_time (unchanged w.leaves x) z) e
  settles_quiet r _ y h z e = absurd e

  -- ---- a swap

  -- a new chain: a change of the map with its answer, or none
  pub record Changed (r : Request K) (n : ℕ) (c : Chain K) (e : End) (v : ℕ) : Type 0 where
    pub changing : changes e ≡ true
    pub says : says_of r (held m r) ≡ Some (reply e v)
    pub pairs : Pairs before (next before m r) (placed w n c [])

  abbrev Swapped : Request K → ℕ → Chain K → End → ℕ → Type 0
  Swapped r n c e v = Changed r n c e v ⊎ ((changes e ≡ false) × Pairs before m (placed w n c []))

  module _ (n : ℕ) (l : Node K) (is : find n w.leaves ≡ Some l) where
    sound : Sound before l.chain
    sound = (found_tile before w.leaves n l i.founded.tiled is).0

    -- what the leaf holds of a key within its bounds is what the map holds
    leaf_holds : (k : K) → Within before (low l.chain) (high l.chain) k → walk before k l.chain ≡ m k
    leaf_holds k a = walked law k l.chain sound a.fits ∙ sym (lookup_leaf law k n w.leaves l i.founded.tiled is a) ∙ p k

    pairs_change : (k : K) (o : Option ℕ) (c : Chain K) → Within before (low l.chain) (high l.chain) k
        → ((j : K) → lookup before j (replay before c) ≡ cond (same_key before j k) o (lookup before j (replay before l.chain))) → Pairs before (put before m k o) (placed w n c [])
    pairs_change k o c a d j =
        contents_change law k o n w.clock c w.leaves l i.founded.tiled is a d j ∙ ap (λ (z : Option ℕ). cond (same_key before j k) o z) (p j)

    inserted : (k : K) (v : ℕ) → Within before (low l.chain) (high l.chain) k → walk before k l.chain ≡ None
        → Changed (requests.Insert k v) n (On kinds.Insertion k v l.chain) ends.Stored 0
    inserted k v a e =
        let d : m k ≡ None = sym (leaf_holds k a) ∙ e in
        record {
          changing = refl;
          says = rw d;
          pairs = rw d (pairs_change k (Some v) (On kinds.Insertion k v l.chain) a
              (λ j. grind (arith, same_equal law j k, lookup_insert_same law k v (replay before l.chain), lookup_insert_other law j k v (replay before l.chain))));
        }

    removed : (k : K) (v : ℕ) → Within before (low l.chain) (high l.chain) k → walk before k l.chain ≡ Some v
        → Changed (requests.Delete k) n (On kinds.Deletion k v l.chain) ends.Removed v
    removed k v a e =
        let d : m k ≡ Some v = sym (leaf_holds k a) ∙ e in
        record {
          changing = refl;
          says = rw d;
          pairs = rw d (pairs_change k None (On kinds.Deletion k v l.chain) a
              (λ j. grind (arith, same_equal law j k, lookup_remove_same law k (replay before l.chain) (ascending law l.chain sound), lookup_remove_other law j k (replay before l.chain))));
        }

    same_pairs : (c : Chain K) (more : List (Node K)) → replay before c ++ contents before more ≡ replay before l.chain → Pairs before m (placed w n c more)
    same_pairs c more d k = ap (lookup before k) (contents_same before n w.clock c more w.leaves l is d) ∙ p k

    swapped : (r : Request K) (c : Chain K) → Makes before r l.chain c → (e : End) → end_for c ≡ Some e → Swapped r n c e (value_for c)
    swapped (requests.Lookup k) c h e q = absurd h
    swapped (requests.Insert k v) c h e q =
        let d = same_Some e ends.Stored (sym q ∙ ap end_for h.1) in rw h.1 (rw d (inl (inserted k v h.0 h.2)))
    swapped (requests.Delete k) c h e q =
        let d = same_Some e ends.Removed (sym q ∙ ap end_for h.2) in rw h.2 (rw d (inl (removed k h.1 h.0 h.3)))
    swapped (requests.Consolidate k) c h e q =
        let d = same_Some e ends.Consolidated (sym q ∙ ap end_for h) in
        rw h (rw d (inr (refl, same_pairs (consolidated before l.chain) [] (append-nil (replay before l.chain)))))
    swapped (requests.Split k) c h e q = absurd h
    swapped requests.ConsolidateRoot c h e q = absurd h

    divides : (k : K) (target : ℕ) → CutAt before (cut (size l.chain)) k l.chain → Pairs before m (divided before w n l.chain k target)
    divides k target a =
        same_pairs (On kinds.Split k target l.chain) (node target w.clock (upper before k l.chain) ∷ [])
        (rw (append-nil (drop (cut (size l.chain)) (replay before l.chain))) (cut_parts law (cut (size l.chain)) k l.chain sound a))

  -- ---- one call, and then the rest of the run

  module _ (n : ℕ) (begins : ℕ → ℕ) (es : List (Event K)) (rest : List (Asked K)) (v : World K) where
    abbrev Onward : Turn K → Type 0
    Onward t = (k : Plain K) → Pairs before k t.world → Goes_as before k rest v

    abbrev Claim : ℕ → Turn K → Type 0
    Claim s t =
        Onward t → ((x : Ended) → coming (suc n) s es ≡ Some x → Settled before t.world s (reply_of x))
        → Goes_as before m (map asked (moment_at n (of_seat s t) begins t.did es) ++ rest) v

    -- an operation that has its moment now, and leaves the map
    quiet_goes : (r : Request K) (y : Reply) → quiet r (held m r) ≡ Some y → Goes_as before m rest v → Goes_as before m (record { request = r; reply = y } ∷ rest) v
    quiet_goes r y e g =
        let z = quiet_says before m r (held m r) y e in
        record { gives = (z.0, rw z.1 g.gives); pairs = rw z.1 g.pairs }

    module _ (s : ℕ) where
      read_goes : (q : Phase K) → Stands before w (w.seats s).request q → stale w q ≡ 0 → Claim s (turn ReadLeaf (Ok answers.Going) (at w s q))
      read_goes q h z ih l = go (coming (suc n) s es) refl
        where
          go : (o : Option Ended) → coming (suc n) s es ≡ o → Goes_as before m (map asked (read_at n (of_seat s (turn ReadLeaf (Ok answers.Going) (at w s q))) begins o) ++ rest) v
          go None e = ih m p
          go (Some x) e =
              let y = set_settles before w.seats s (record { request = (w.seats s).request; phase = q }) (reply_of x) (l x e) in
              rw (eq-eqb s s refl) (quiet_goes (w.seats s).request (reply_of x) (settles_quiet (w.seats s).request q (reply_of x) h z y) (ih m p))

      replace_goes : (j : ℕ) (c : Chain K) (e : End) (u d z : ℕ) → Swapped (w.seats s).request j c e u
          → Claim s (turn Installed (Ok (answers.Ended (record { end = e; value = u; depth = d; size = z }))) (at (placed w j c []) s Idle))
      replace_goes j c e u d z (inl h) ih l =
          let g = ih (next before m (w.seats s).request) h.pairs in
          rw (h.changing, eq-eqb s s refl) (record { gives = (h.says, g.gives); pairs = g.pairs })
      replace_goes j c e u d z (inr h) ih l = rw h.0 (ih m h.1)

      perform_goes : (a : Act K) → Allowed before w (w.seats s).request a → Shaped before w (w.seats s).request (w.seats s).phase a → Claim s (perform before w s a)
      perform_goes (Reads q) h z ih l = read_goes q h.0 z.0 ih l
      perform_goes (Fails q) h z ih l = ih m p
      perform_goes (Goes q) h z ih l = ih m p
      perform_goes (Ends e u d y) h z ih l = ih m p
      perform_goes (Replaces j c e u) h z ih l =
          replace_goes j c e u (attributes_of c).depth (attributes_of c).size
          (subst (λ (x : ℕ). Swapped (w.seats s).request j c e x) (sym h.value) (swapped j h.leaf h.is (w.seats s).request c h.makes e h.ends)) ih l
      perform_goes (Divides j c k target) h z ih l =
          ih m (subst (λ (b : Chain K). CutAt before (cut (size b)) k b → Pairs before m (divided before w j b k target)) h.same (λ a. divides j h.leaf h.is k target a) h.cuts)
      perform_goes (Roots c e d y) h z ih l = rw z.1 (ih m p)
      perform_goes (Refuses x) h z ih l = ih m p

      begin_goes : (r : Request K) (b : Bool) → Claim s (begin w s r b)
      begin_goes r true ih l = ih m p
      begin_goes r false ih l = ih m p

    seated_goes : (g : Granted) (c : Call K) → Claim (seat_of c) (seated before w g c)
    seated_goes g (Begin s r) = begin_goes s r (is_idle (w.seats s).phase)
    seated_goes g (Step s) =
        perform_goes s (act before w g (w.seats s).request (w.seats s).phase) (act_ok law w i g (w.seats s).request (w.seats s).phase (i.seats s)) (act_shaped before w g (w.seats s).request (w.seats s).phase)
    seated_goes g (Tell s) = λ ih l. ih m p

    call_goes : (c : Made K) → Claim (seat_of c.call) (taking before w c)
    call_goes c = cond_both (ltb (seat_of c.call) 4) _ _ (Claim (seat_of c.call)) (λ _. seated_goes c.granted c.call) (λ _ ih l. ih m p)

module _ {K : Type 0} {before : K → K → Bool} (law : Lawful K before) where
  pub goes : (cs : List (Made K)) (w : World K) (m : Plain K) (n : ℕ) (begins : ℕ → ℕ) → Invariant before w → Pairs before m w
      → Goes_as before m (map asked (moments n begins (run before w cs))) (after before w cs)
  goes [] w m n begins i p = record { gives = tt; pairs = p }
  goes (c ∷ cs) w m n begins i p =
      let t = taking before w c in
      let e = event before c t in
      let es = run before t.world cs in
      let more = moments (suc n) (begun n e t.did begins) es in
      rw (map-append asked (moment_at n e begins t.did es) more)
      (call_goes law w i m p n begins es (map asked more) (after before t.world cs) c
      (λ k q. goes cs t.world k (suc n) (begun n e t.did begins) (call_kept law w i c) q) (λ x q. settles before cs t.world (suc n) (seat_of c.call) x q))

  pub kept : (cs : List (Made K)) (w : World K) → Invariant before w → Invariant before (after before w cs)
  kept [] w i = i
  kept (c ∷ cs) w i = kept cs (taking before w c).world (call_kept law w i c)

  -- ---- no call meets an impossible number

  perform_possible : (w : World K) (s : ℕ) (r : Request K) (a : Act K) → Allowed before w r a → impossible (perform before w s a).answer ≡ false
  perform_possible w s r (Refuses x) h = rw h refl
  perform_possible w s r _ h = refl

  begin_possible : (w : World K) (s : ℕ) (r : Request K) (b : Bool) → impossible (begin w s r b).answer ≡ false
  begin_possible w s r true = refl
  begin_possible w s r false = refl

  pub seated_possible : (w : World K) → Invariant before w → (g : Granted) (c : Call K) → impossible (seated before w g c).answer ≡ false
  seated_possible w i g (Begin s r) = begin_possible w s r (is_idle (w.seats s).phase)
  seated_possible w i g (Step s) =
      perform_possible w s (w.seats s).request (act before w g (w.seats s).request (w.seats s).phase) (act_ok law w i g (w.seats s).request (w.seats s).phase (i.seats s))
  seated_possible w i g (Tell s) = refl

  call_possible : (w : World K) → Invariant before w → (c : Made K) → impossible (taking before w c).answer ≡ false
  call_possible w i c = cond_both (ltb (seat_of c.call) 4) _ _ (λ (t : Turn K). impossible t.answer ≡ false) (λ _. seated_possible w i c.granted c.call) (λ _. refl)

  pub all_possible : (cs : List (Made K)) (w : World K) → Invariant before w → AllByRecursion (λ (e : Event K). impossible e.answer ≡ false) (run before w cs)
  all_possible [] w i = tt
  all_possible (c ∷ cs) w i = (call_possible w i c, all_possible cs (taking before w c).world (call_kept law w i c))
