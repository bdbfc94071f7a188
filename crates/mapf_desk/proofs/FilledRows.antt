use Rattle.std.proofs.Common.{◌≡◌, ◌<◌, ◌++◌, ℕ, List, length, Some, drop, map, take, slice_index_or, subst, sym, ◌∙◌, ap, append-nil, arith}
use Rattle.std.specs.Prelude.{Option, Result, Ok, Err, IfOk, Vec}
use Rattle.std.specs.Borrow.{Bor}
use Rattle.std.specs.Global.{Global}
use Rattle.std.proofs.lemmas.List.{length-map, get_or-map, take_all}
use Rattle.std.proofs.Math.ListN.{drop_of_length-le}
use Rattle.mapf_desk.specs.Rows.{AreRows, IsFilled}
use Rattle.mapf_desk.specs.declared.checking_row.Row.{Row}

-- where each place is filled, the rows are those of the files
pub filled_rows : (is_row : List ℕ → Row → Type 0) (files : List (Bor (List ℕ))) (slots : List (Option Row)) (rows : List Row) → slots ≡ map Some rows
    → length slots ≡ length files
    → ((i : ℕ) (d : Option Row) → i < length files → IsFilled is_row files i (slice_index_or slots i d)) → AreRows is_row files rows
filled_rows is_row files slots rows same as_many filled =
    let long : length rows ≡ length files = sym (length-map rows Some) ∙ ap length (sym same) ∙ as_many in
    record {
      as_many = long;
      each = λ number file row below is_file is_at.
          let place : slice_index_or slots number (Some row) ≡ Some row =
          ap (λ all. slice_index_or all number (Some row)) same ∙ get_or-map Some rows number row (Some row) (subst (λ many. number < many) (sym long) below) ∙ ap Some (sym is_at) in
          (subst (IsFilled is_row files number) place (filled number (Some row) below)) file is_file;
    }

pub all_filled : (is_row : List ℕ → Row → Type 0) (files : List (Bor (List ℕ))) (slots : List (Option Row)) {E : Type 0} (result : Result (Vec Row Global) E)
    → IfOk result (λ rows. slots ≡ map Some rows.items) → length slots ≡ length files
    → ((i : ℕ) (d : Option Row) → i < length files → IsFilled is_row files i (slice_index_or slots i d)) → IfOk result (λ rows. AreRows is_row files rows.items)
all_filled is_row files slots (Ok rows) same as_many filled = filled_rows is_row files slots rows.items same as_many filled
all_filled is_row files slots (Err why) same as_many filled = tt

-- a slice that was lent as a whole, and came back as long
pub whole_back : {X : Type 0} (n : ℕ) (items lent : List X) → n ≡ length items → length lent ≡ length items → take n (lent ++ drop (length lent) items) ≡ lent
whole_back n items lent is_long as_long =
    ap (λ rest. take n (lent ++ rest)) (drop_of_length-le items (omega (arith, as_long))) ∙ ap (take n) (append-nil lent) ∙ take_all n lent (omega (arith, is_long, as_long))
