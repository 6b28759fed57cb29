use Rattle.std.proofs.Common.{ℕ, Bool, true, false, Option, None, List, [], ◌∷◌, ◌≡◌, ◌<◌, ◌≤◌, ◌+◌, ◌*◌, length, get_or, set, take, replicate, refl, sym, ap, subst, ◌∙◌, arith, rules}
use Rattle.std.specs.Prelude.{IsPermutation}
use Rattle.std.specs.BinaryHeap.{heap_items, heap_len, IsHeap, IsUpperBound}
use Rattle.std.specs.declared.cmp.Reverse.{Reverse}
use Rattle.std.proofs.lemmas.List.{get_or_default, take_all}
use Rattle.teg_net.specs.Nets.{NetLists}
use Rattle.teg_critical.specs.declared.losses.Loss.{Loss}
use Rattle.teg_critical.specs.Losses.{most_loss}
use Rattle.teg_critical.specs.LeastLosses.{AreSettled, IsRelaxed, AreQueued, is_settled, nearest_first}
use Rattle.teg_net.proofs.Reading.{written_back}
use Rattle.teg_critical.proofs.Settling.{one_settled, settles}
use Rattle.teg_critical.proofs.Searching.{searched, settled_back}
use Rattle.teg_critical.proofs.Queueing.{search_begins, queue_begins, first_in, passed_over, is_nearest, goes_on, queue_over, less_left}
use Rattle.teg_critical.proofs.searches.least_losses.Goals as goal
use Rattle.teg_critical.proofs.SearchStates.{unsettled, IsNearest, IsOver, IsQueueing}

pub search-init : goal.search-init
search-init c =
    let filled : c.in_ok-least.least.items ≡ replicate (length c.transitions-count.result.now) None = c.in_ok-least.ensures.items_if_clones_equal (search rules) in
    let all_open : c.in_ok-settled.settled.items ≡ replicate (length c.transitions-count.result.now) false = c.in_ok-settled.ensures.items_if_clones_equal (search rules) in
    let start_in : c.args.end < length c.transitions-count.result.now = rw c.transitions-count.ensures.value c.requires.end in
    let searching = search_begins c.args.known.now.net.now c.args.known.now.losses.now c.args.end c.in_ok-least.least.items c.in_ok-settled.settled.items
    (length c.transitions-count.result.now) filled all_open (ap length c.transitions-count.ensures.value) start_in in (
      queue_begins c.args.known.now.net.now c.args.known.now.losses.now c.args.end c.in_ok-least.least.items c.in_ok-settled.settled.items
          (length c.transitions-count.result.now) (heap_items c.new-queue.result) (heap_items c.push.new.self) searching filled start_in
          c.new-queue.ensures.items c.in_ok-push.ensures.permutation (c.in_ok-push.ensures.heap_order c.new-queue.ensures.heap_order),
      omega arith,
      λ i d m. absurd (omega arith),
    )

pub index-requires : goal.index-requires
index-requires c =
    let h = c.search.invariant.0 in
    let l = first_in h c.in-Some.ensures.permutation in
    let marks = h.searching.marks in
    let ok = c.search.settled.ok in
    omega (arith, ok.0)

pub index_mut-requires-then-not-index : goal.index_mut-requires-then-not-index
index_mut-requires-then-not-index c =
    let h = c.search.invariant.0 in
    let l = first_in h c.in-Some.ensures.permutation in
    let marks = h.searching.marks in
    let ok = c.search.settled.ok in
    omega (arith, ok.0)

pub relax-requires-clause-at : goal.relax-requires-clause-at
relax-requires-clause-at c = first_in c.search.invariant.0 c.in-Some.ensures.permutation

pub relax-requires-clause-width : goal.relax-requires-clause-width
relax-requires-clause-width c = rw c.deref_mut.ensures.value c.search.invariant.0.searching.count

-- the entry of an unsettled transition is the nearest
near_of : {net : NetLists} {losses : List (Option Loss)} {start : ℕ} {least : List (Option ℕ)} {settled : List Bool}
    {first : Reverse (ℕ × ℕ)} {queue rest : List (Reverse (ℕ × ℕ))} {read : Bool} → IsQueueing net losses start least settled queue
    → IsPermutation queue (first ∷ rest) → (IsHeap nearest_first queue → IsUpperBound nearest_first first rest)
    → read ≡ get_or settled first.0.1 read → read ≡ false → IsNearest least settled first.0.1 first.0.0
near_of {settled = settled} {first = first} {read = read} h moved top is not_yet =
    let l = first_in h moved in
    let marks = h.searching.marks in
    let low : first.0.1 < length settled = omega arith in
    is_nearest h moved (sym (is ∙ get_or_default settled first.0.1 read true low) ∙ not_yet) low (top h.heap)

most_of : (loss n u : ℕ) → loss + u * most_loss ≤ n * most_loss → n ≤ 400 → loss ≤ 4000000000000000000000000000000000
most_of loss n u h few = omega arith

empty_of : {X : Type 0} (xs : List X) → length xs ≡ 0 → xs ≡ []
empty_of [] e = refl
empty_of (x ∷ xs) e = absurd (omega arith)

pub relax-requires-clause-base : goal.relax-requires-clause-base
relax-requires-clause-base c =
    let h = c.search.invariant.0 in
    let near = near_of h c.in-Some.ensures.permutation c.in-Some.ensures.below_top c.index.ensures c.if-not-index.true in
    let small = h.searching.small c.in-Some.field-0.0.1 c.in-Some.field-0.0.0 near.told in
    let few = c.transitions-count.ensures.rules.few_transitions in
    let marks = h.searching.marks in
    most_of c.in-Some.field-0.0.0 (length c.search.settled.items) (unsettled c.search.settled.items) small (omega arith)

pub search-smaller-else-next-wanted : goal.search-smaller-else-next-wanted
search-smaller-else-next-wanted c =
    let h = c.search.invariant.0 in
    let settled = c.search.settled.items in
    let at = c.in-Some.field-0.0.1 in
    let l = first_in h c.in-Some.ensures.permutation in
    let count = c.requires.can.leaving.count in
    let near = near_of h c.in-Some.ensures.permutation c.in-Some.ensures.below_top c.index.ensures c.if-not-index.true in
    less_left settled (set settled at true) c.args.known.now.leaving.now at (heap_len c.search.queue) (heap_len c.pop.new.self) (heap_len c.relax.new.queue) (omega arith)
    (one_settled settled at near.in_range near.open_) c.in-Some.ensures.len c.in_ok-relax.ensures.few

pub search-preserved-else-next-wanted : goal.search-preserved-else-next-wanted
search-preserved-else-next-wanted c =
    let h = c.search.invariant.0 in
    let first = c.in-Some.field-0 in
    let moved = c.in-Some.ensures.permutation in
    let near = near_of h moved c.in-Some.ensures.below_top c.index.ensures c.if-not-index.true in
    let relaxed : IsRelaxed c.args.known.now.net.now c.args.known.now.losses.now first.0.1 first.0.0 (get_or c.args.known.now.leaving.now first.0.1 [])
    c.search.least.items c.relax.new.least = rw c.deref_mut.ensures.value at c.in_ok-relax.ensures.relaxed in
    let queued : AreQueued c.search.least.items c.relax.new.least (heap_items c.pop.new.self) (heap_items c.relax.new.queue) = rw c.deref_mut.ensures.value at c.in_ok-relax.ensures.queued in
    let vec = c.search.least.ok in
    let whole = written_back c.relax.new.least c.search.least.items c.search.least.len (omega (arith, relaxed.count, vec.0)) in
    let done : AreSettled (set c.search.settled.items first.0.1 true) (take c.first_open-next.result c.args.wanted.now) = rw c.deref.ensures.value at c.first_open-next.ensures.settled in
    rw whole (
      goes_on h moved near.in_range relaxed queued (c.in-Some.ensures.heap_order h.heap).0 (settles c.requires.can h.searching near relaxed c.transitions-count.ensures.rules),
      c.first_open-next.ensures.bound,
      done,
    )

pub returns-then-next-wanted : goal.returns-then-next-wanted
returns-then-next-wanted c =
    let h = c.search.invariant.0 in
    let first = c.in-Some.field-0 in
    let moved = c.in-Some.ensures.permutation in
    let near = near_of h moved c.in-Some.ensures.below_top c.index.ensures c.if-not-index.true in
    let relaxed : IsRelaxed c.args.known.now.net.now c.args.known.now.losses.now first.0.1 first.0.0 (get_or c.args.known.now.leaving.now first.0.1 [])
    c.search.least.items c.relax.new.least = rw c.deref_mut.ensures.value at c.in_ok-relax.ensures.relaxed in
    let vec = c.search.least.ok in
    let whole = written_back c.relax.new.least c.search.least.items c.search.least.len (omega (arith, relaxed.count, vec.0)) in
    let done : AreSettled (set c.search.settled.items first.0.1 true) (take c.first_open-next.result c.args.wanted.now) = rw c.deref.ensures.value at c.first_open-next.ensures.settled in
    let all : take c.first_open-next.result c.args.wanted.now ≡ c.args.wanted.now = take_all c.first_open-next.result c.args.wanted.now (omega (arith, c.if-next-wanted.true)) in
    rw whole (settled_back (settles c.requires.can h.searching near relaxed c.transitions-count.ensures.rules) c.transitions-count.ensures.rules c.args.wanted.now c.requires.wanted (rw all at done))

pub search-preserved : goal.search-preserved
search-preserved c =
    let h = c.search.invariant.0 in
    let first = c.in-Some.field-0 in
    let l = first_in h c.in-Some.ensures.permutation in
    let marks = h.searching.marks in
    let done : is_settled c.search.settled.items first.0.1 ≡ true =
    sym (c.index.ensures ∙ get_or_default c.search.settled.items first.0.1 c.index.result.now true (omega arith)) ∙ c.if-not-index.false in (
      passed_over h c.in-Some.ensures.permutation done (c.in-Some.ensures.heap_order h.heap).0,
      c.search.invariant.1,
      c.search.invariant.2,
    )

pub returns : goal.returns
returns c =
    let h = c.search.invariant.0 in
    let nothing : heap_items c.search.queue ≡ [] = empty_of (heap_items c.search.queue) (search rules) in
    let over : IsOver c.search.least.items c.search.settled.items = queue_over (subst (IsQueueing c.args.known.now.net.now c.args.known.now.losses.now c.args.end
    c.search.least.items c.search.settled.items) nothing h) in
    searched h.searching c.transitions-count.ensures.rules over c.args.wanted.now c.requires.wanted
