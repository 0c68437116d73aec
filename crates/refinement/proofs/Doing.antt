-- a step does in memory what it does without: reads a leaf, installs, fails, or else
use Rattle.std.proofs.Common.{◌≡◌, ℕ, Bool, true, false, cond, eqb, ltb, Some, None, Option, sym, refl, subst}
use Rattle.std.specs.List.{slice_get}
use Rattle.std.proofs.lemmas.Bool.{cond_both}
use Rattle.nodes.specs.declared.node.Head.{Head}
use Rattle.nodes.specs.declared.node.Item.{Item}
use Rattle.bwtree.specs.declared.answer.End.{End}
use Rattle.bwtree.specs.declared.seat.Phase.{Phase}
use Rattle.bwtree.specs.declared.seat.Request.{Request}
use Rattle.bwtree.specs.declared.seat.Request.TheVariants as requests
use Rattle.bwtree.specs.declared.walk.Look.{Look}
use Rattle.bwtree.specs.declared.walk.Look.TheVariants as looks
use Rattle.bwtree.specs.declared.walk.Verdict.{Verdict}
use Rattle.bwtree.specs.declared.walk.Verdict.TheVariants as verdicts
use Rattle.bwtree.specs.Deltas.{cut}
use Rattle.bwtree.specs.Memory.{Memory}
use Rattle.bwtree.specs.Swaps.{end_of}
use Rattle.bwtree.specs.Walks.{beyond, key_of, verdict}
use Rattle.laws.specs.Acts.{Act, act, build as build_act, crosses, judged, leaf_found, leaf_read as leaf_read_act, leaf_walk as leaf_walk_act, looked, replaces, root_consolidation, root_walk as root_walk_act, split_at, split_slot}
use Rattle.laws.specs.Calls.{Did, Failed, Installed, Otherwise, ReadLeaf, perform}
use Rattle.laws.specs.Chains.{Chain, attributes_of, look, replay}
use Rattle.laws.specs.Theorem.{impossible}
use Rattle.laws.specs.Worlds.{Granted, Node, Phase as Place, World, find, offered}
use Rattle.refinement.specs.Relation.{Owner, view, PhaseAs, idle, root_read, root_walk, leaf_read, leaf_walk, build, root_build, putting, making, root_making, splitting, post_read, post_swap}
use Rattle.refinement.specs.Service.{did_step}
use Rattle.refinement.proofs.Reading.{not_impossible}

module _ {K : Type 0} (before : K → K → Bool) (w : World K) (s : ℕ) (g : Granted) where
  -- an act that is possible does this
  abbrev Does : Did → Act K → Type 0
  Does d a = impossible (perform before w s a).answer ≡ false → d ≡ (perform before w s a).did

  -- ---- reads and walks

  root_walks : (at : Chain K) (best : Option (Item K)) (o : Option K) → Does Otherwise (root_walk_act before w at best o)
  root_walks at best None i = refl
  root_walks at best (Some k) i = refl

  crossing : (o : Option ℕ) → Does ReadLeaf (crosses o)
  crossing None i = not_impossible i
  crossing (Some n) i = refl

  leaf_finds : (r : Request K) (k : K) (o : Option (Node K)) → Does ReadLeaf (leaf_found before r k o)
  leaf_finds r k None i = not_impossible i
  leaf_finds r k (Some x) i = cond_both (beyond before k (attributes_of x.chain).high) _ _ (Does ReadLeaf) (λ _. crossing (attributes_of x.chain).right) (λ _ i. refl) i

  leaf_reads : (r : Request K) (n : ℕ) (o : Option K) → Does ReadLeaf (leaf_read_act before w r n o)
  leaf_reads r n None i = not_impossible i
  leaf_reads r n (Some k) i = leaf_finds r k (find n w.leaves) i

  judges : (x : Node K) (k : K) (o : Option Verdict) → Does Otherwise (judged g x k o)
  judges x k None i = refl
  judges x k (Some (verdicts.Ends e v)) i = refl
  judges x k (Some (verdicts.Puts kind v)) i = cond_both g.records _ _ (Does Otherwise) (λ _ i. refl) (λ _ i. refl) i

  looks_at : (r : Request K) (x : Node K) (k : K) (l : Look (Chain K)) → Does Otherwise (looked g r x k l)
  looks_at r x k (looks.Onward c) i = refl
  looks_at r x k (looks.Decided o) i = judges x k (verdict r (attributes_of x.chain).size o) i

  leaf_walks : (r : Request K) (x : Node K) (at : Chain K) (o : Option K) → Does Otherwise (leaf_walk_act before g r x at o)
  leaf_walks r x at None i = refl
  leaf_walks r x at (Some k) i = looks_at r x k (look before k at) i

  -- ---- build

  split_at_lem : (x : Node K) (target : ℕ) (o : Option (Item K)) → Does Otherwise (split_at before x target o)
  split_at_lem x target None i = refl
  split_at_lem x target (Some y) i = refl

  split_slot_lem : (x : Node K) (o : Option ℕ) → Does Otherwise (split_slot before g x o)
  split_slot_lem x None i = refl
  split_slot_lem x (Some target) i = cond_both g.records _ _ (Does Otherwise) (λ _. split_at_lem x target (slice_get (replay before x.chain) (cut (attributes_of x.chain).size))) (λ _ i. refl) i

  builds : (x : Node K) (r : Request K) → Does Otherwise (build_act before w g x r)
  builds x (requests.Consolidate k) i = cond_both (eqb (attributes_of x.chain).depth 0) _ _ (Does Otherwise) (λ _ i. refl) (λ _. cond_both g.frame _ _ (Does Otherwise) (λ _ i. refl) (λ _ i. refl)) i
  builds x (requests.Split k) i = cond_both (ltb (attributes_of x.chain).size 2) _ _ (Does Otherwise) (λ _ i. refl) (λ _. cond_both g.frame _ _ (Does Otherwise) (λ _. split_slot_lem x (offered w g.slot)) (λ _ i. refl)) i
  builds x _ i = refl

  root_builds : (x : Node K) → Does Otherwise (root_consolidation before g x)
  root_builds x = cond_both (eqb (attributes_of x.chain).depth 0) _ _ (Does Otherwise) (λ _ i. refl) (λ _. cond_both g.frame _ _ (Does Otherwise) (λ _ i. refl) (λ _ i. refl))

  -- ---- swaps

  replacing : (n : ℕ) (c : Chain K) (o : Option End) → Does Installed (replaces n c o)
  replacing n c None i = not_impossible i
  replacing n c (Some e) i = refl

  -- memory compares as the index without memory does
  compared : {a b : Bool} (x y : Act K) → a ≡ b → Does Installed x → Does Failed y → Does (cond a Installed Failed) (cond b x y)
  compared {a} {b} x y e h k = subst (λ (c : Bool). Does (cond c Installed Failed) (cond b x y)) (sym e) (go b)
    where
      go : (c : Bool) → Does (cond c Installed Failed) (cond c x y)
      go true = h
      go false = k

module _ {K : Type 0} (before : K → K → Bool) (top : Item K) (m : Memory K) (w : World K) (own : Head → Owner) (s : ℕ) (g : Granted) where
  -- what the step of a seat does, by its phases
  pub does_same : (r : Request K) (p : Phase) (q : Place K) → PhaseAs before top (view m w own) s r p q → (a : Request K) → Does before w s g (did_step m p) (act before w g a q)
  does_same r p q idle a i = refl
  does_same r p q root_read a i = refl
  does_same r p q (root_walk {c = c} {b = b} x y) a i = root_walks before w s g c b (key_of a) i
  does_same r p q (leaf_read {n = n}) a i = leaf_reads before w s g a n (key_of a) i
  does_same r p q (leaf_walk {x = x} {c = c} y z) a i = leaf_walks before w s g a x c (key_of a) i
  does_same r p q (build {x = x} y) a i = builds before w s g x a i
  does_same r p q (root_build {x = x} y) a i = root_builds before w s g x i
  does_same r p q (putting {x = x} {kind = kind} y d o z) a i = compared before w s g _ _ y.agree (replacing before w s g x.slot _ (end_of kind)) (λ _. refl) i
  does_same r p q (making {x = x} y d o) a i = compared before w s g _ _ y.agree (λ _. refl) (λ _. refl) i
  does_same r p q (root_making y c d o) a i = compared before w s g _ _ y.agree (λ _. refl) (λ _. refl) i
  does_same r p q (splitting d y c o b k v o' n u f o'' t l z) a i = compared before w s g _ _ y.agree (λ _. refl) (λ _. refl) i
  does_same r p q (post_read d e b c o) a i = refl
  does_same r p q (post_swap y d o) a i = compared before w s g _ _ y.agree (λ _. refl) (λ _. refl) i
