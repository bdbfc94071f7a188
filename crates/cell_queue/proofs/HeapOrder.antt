use Rattle.std.proofs.lemmas.Bool.Decides.{nat_tests}
use Rattle.std.proofs.lemmas.Grind.{common_steps}
use Rattle.std.specs.Prelude.{slice_index}
use Rattle.std.proofs.Common.{◌≡◌, ◌≢◌, ℕ, zero, suc, ◌-◌, ◌/◌, ◌<◌, ◌≤◌, List, length, inl, inr, arith, get_or-set_same, get_or-set_other}
use Rattle.std.proofs.Math.ListN.{set, length-set}
use Rattle.std.proofs.lemmas.Bool.{cases_eq}
use Rattle.cell_queue.specs.Heap.{IsChild, IsOrdered, IsLoose, IsLooseUp, IsLooseDown}

-- the keys after an exchange
pub record IsExchange (K K' : ℕ → ℕ) (i j : ℕ) : Type 0 where
  pub first : K' i ≡ K j
  pub second : K' j ≡ K i
  pub rest : (x : ℕ) → x ≢ i → x ≢ j → K' x ≡ K x

pub exchanged : (keys : List ℕ) (i j : ℕ) → i < length keys → j < length keys →
    IsExchange (λ x. slice_index keys x) (λ x. slice_index (set (set keys i (slice_index keys j)) j (slice_index keys i)) x) i j
exchanged keys i j li lj = grind (arith, nat_tests, common_steps, length-set, get_or-set_same, get_or-set_other)

-- the order above and below a place that may be too small, one level up
pub rise_others : (K K' : ℕ → ℕ) (len at parent : ℕ) →
    ((p c : ℕ) → IsChild p c → c < len → c ≢ at → K p ≤ K c) → ((p c : ℕ) → IsChild p at → IsChild at c → c < len → K p ≤ K c) →
    IsChild parent at → K at < K parent → IsExchange K K' parent at →
    (p c : ℕ) → IsChild p c → c < len → c ≢ parent → K' p ≤ K' c
rise_others K K' len at parent U V child less x p c h lt ne = grind (arith, nat_tests, common_steps)

pub rise_across : (K K' : ℕ → ℕ) (len at parent : ℕ) →
    ((p c : ℕ) → IsChild p c → c < len → c ≢ at → K p ≤ K c) →
    IsChild parent at → at < len → IsExchange K K' parent at →
    (p c : ℕ) → IsChild p parent → IsChild parent c → c < len → K' p ≤ K' c
rise_across K K' len at parent U child in_heap x p c hp hc lt = grind (arith, nat_tests, common_steps)

-- the same, one level down: `child` is the lesser of the children
pub sink_others : (K K' : ℕ → ℕ) (len at child : ℕ) →
    ((p c : ℕ) → IsChild p c → c < len → p ≢ at → K p ≤ K c) → ((p c : ℕ) → IsChild p at → IsChild at c → c < len → K p ≤ K c) →
    IsChild at child → child < len → K child < K at → ((c : ℕ) → IsChild at c → c < len → K child ≤ K c) → IsExchange K K' at child →
    (p c : ℕ) → IsChild p c → c < len → p ≢ child → K' p ≤ K' c
sink_others K K' len at child U V is_child in_heap less least x p c h lt ne = grind (arith, nat_tests, common_steps)

pub sink_across : (K K' : ℕ → ℕ) (len at child : ℕ) →
    ((p c : ℕ) → IsChild p c → c < len → p ≢ at → K p ≤ K c) →
    IsChild at child → child < len → IsExchange K K' at child →
    (p c : ℕ) → IsChild p child → IsChild child c → c < len → K' p ≤ K' c
sink_across K K' len at child U is_child in_heap x p c hp hc lt = grind (arith, nat_tests, common_steps)

pub IsLooseUp-rise : (keys : List ℕ) (len at parent : ℕ) → IsLooseUp keys len at → len ≤ length keys → at < len → IsChild parent at → slice_index keys at < slice_index keys parent →
    IsLooseUp (set (set keys parent (slice_index keys at)) at (slice_index keys parent)) len parent
IsLooseUp-rise keys len at parent loose room in_heap child less =
    let x : IsExchange (λ v. slice_index keys v) (λ v. slice_index (set (set keys parent (slice_index keys at)) at (slice_index keys parent)) v) parent at = exchanged keys parent at (omega arith) (omega arith) in
    record {
      others = rise_others (λ v. slice_index keys v) (λ v. slice_index (set (set keys parent (slice_index keys at)) at (slice_index keys parent)) v) len at parent loose.others loose.across child less x;
      across = rise_across (λ v. slice_index keys v) (λ v. slice_index (set (set keys parent (slice_index keys at)) at (slice_index keys parent)) v) len at parent loose.others child in_heap x;
    }

pub IsLooseDown-sink : (keys : List ℕ) (len at child : ℕ) → IsLooseDown keys len at → len ≤ length keys → IsChild at child → child < len → slice_index keys child < slice_index keys at →
    ((c : ℕ) → IsChild at c → c < len → slice_index keys child ≤ slice_index keys c) →
    IsLooseDown (set (set keys at (slice_index keys child)) child (slice_index keys at)) len child
IsLooseDown-sink keys len at child loose room is_child in_heap less least = grind (arith, nat_tests, common_steps, exchanged, sink_others, sink_across)

-- the order without the last place, after its exchange with another
pub IsLoose-last : (keys : List ℕ) (len at : ℕ) → IsOrdered keys len → len ≤ length keys → at < len →
    IsLoose (set (set keys at (slice_index keys (len - 1))) (len - 1) (slice_index keys at)) (len - 1) at
IsLoose-last keys len at ordered room inside =
    let x = exchanged keys at (len - 1) (omega arith) (omega arith) in
    record {
      others = λ p c child lt pn cn. omega (arith, x.rest p pn (omega arith), x.rest c cn (omega arith), ordered p c child (omega arith));
      across = λ p c above below lt. omega (arith, x.rest p (omega arith) (omega arith), x.rest c (omega arith) (omega arith), ordered p at above (omega arith), ordered at c below (omega arith));
    }

-- the top has the least key
pub IsOrdered-top : (keys : List ℕ) (len : ℕ) → IsOrdered keys len → (fuel i : ℕ) → i ≤ fuel → i < len → slice_index keys 0 ≤ slice_index keys i
IsOrdered-top keys len ordered zero i le lt = (let z : i ≡ 0 = omega arith in rw z (omega arith))
IsOrdered-top keys len ordered (suc fuel) i le lt = elim (cases_eq i 0) [
  | inl z ↦ rw z (omega arith)
  | inr n ↦ omega (arith, ordered ((i - 1) / 2) i (omega arith, omega arith) lt, IsOrdered-top keys len ordered fuel ((i - 1) / 2) (omega arith) (omega arith))
]
