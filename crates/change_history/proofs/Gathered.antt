-- Elements put in or taken out one after another.
use Rattle.std.proofs.Common.{◌≡◌, inl, inr, List, [], ◌∷◌, ◌++◌, Contains, arith}
use mathlib.Core.Logic.{◌↔◌}
use Rattle.plan_table.proofs.Order.{Contains-nil}
use Rattle.plan_table.proofs.Sets.{push_iff}
use Rattle.plan_table.specs.Sets.{Gains, Loses}
use Rattle.change_history.specs.Moved.{AreApart, GainsAll, LosesAll}

module _ {X : Type 0} where
  pub gains_none : (old : List X) → GainsAll old old []
  gains_none old x = (λ h. inl h, λ h. elim h [ inl before ↦ before | inr none ↦ absurd (Contains-nil x none) ])

  pub loses_none : (old : List X) → LosesAll old old []
  loses_none old x = (λ h. (h, Contains-nil x), λ h. h.0)

  pub gains_more : (old now new items : List X) (item : X) → GainsAll old now items → Gains now new item → GainsAll old new (items ++ item ∷ [])
  gains_more old now new items item gains gain x =
      let more = push_iff items item x in (
        λ h. elim ((gain x).0 h) [
          | inl held ↦ elim ((gains x).0 held) [ inl before ↦ inl before | inr earlier ↦ inr (more.1 (inl earlier)) ]
          | inr is ↦ inr (more.1 (inr is))
        ],
        λ h. (gain x).1 (elim h [
          | inl before ↦ inl ((gains x).1 (inl before))
          | inr added ↦ elim (more.0 added) [ inl earlier ↦ inl ((gains x).1 (inr earlier)) | inr is ↦ inr is ]
        ]),
      )

  pub loses_more : (old now new items : List X) (item : X) → LosesAll old now items → Loses now new item → LosesAll old new (items ++ item ∷ [])
  loses_more old now new items item loses lose x =
      let more = push_iff items item x in (
        λ h.
            let held = (lose x).0 h in
            let before = (loses x).0 held.0 in
            (before.0, λ taken. elim (more.0 taken) [ inl earlier ↦ before.1 earlier | inr is ↦ held.1 is ]),
        λ h. (lose x).1 ((loses x).1 (h.0, λ taken. h.1 (more.1 (inl taken))), λ is. h.1 (more.1 (inr is))),
      )

  -- where all of a set went and nothing is there yet
  pub apart_gone : (before gone : List X) → GainsAll [] gone before → AreApart before [] [] gone
  apart_gone before gone gains = record {
    came_is = λ x. (λ h. absurd (Contains-nil x h), λ w. absurd (Contains-nil x w.0));
    gone_is = λ x. (λ h. elim ((gains x).0 h) [ inl none ↦ absurd (Contains-nil x none) | inr was ↦ (was, Contains-nil x) ], λ w. (gains x).1 (inr w.0));
  }

  -- what came and went to a set is what did to a list of the same elements
  pub apart_listed : (before set after came gone : List X) → GainsAll [] set after → AreApart before set came gone → AreApart before after came gone
  apart_listed before set after came gone gains is = record {
    came_is = λ x. (
      λ h. let w = (is.came_is x).0 h in (elim ((gains x).0 w.0) [ inl none ↦ absurd (Contains-nil x none) | inr there ↦ there ], w.1),
      λ w. (is.came_is x).1 ((gains x).1 (inr w.0), w.1),
    );
    gone_is = λ x. (
      λ h. let w = (is.gone_is x).0 h in (w.0, λ there. w.1 ((gains x).1 (inr there))),
      λ w. (is.gone_is x).1 (w.0, λ held. elim ((gains x).0 held) [ inl none ↦ absurd (Contains-nil x none) | inr there ↦ w.1 there ]),
    );
  }
