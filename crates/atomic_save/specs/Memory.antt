-- What files in memory hold, and what an end may leave of them (this project's choice).
use Rattle.std.specs.Prelude.{◌≡◌, ◌⊎◌, ℕ, List, [], ◌∷◌, length, drop, Option, Some, None, Vec}
use mathlib.Core.Logic.{inl, inr}
use Rattle.std.specs.declared.alloc.Global.{Global}
use Rattle.atomic_save.specs.Outcomes.{Content}

-- what is under a name
abbrev pub content_of : Option (Vec ℕ Global) → Content
content_of None = None
content_of (Some bytes) = Some bytes.items

abbrev pub contents_of : List (Option (Vec ℕ Global)) → List Content
contents_of [] = []
contents_of (c ∷ cs) = content_of c ∷ contents_of cs

abbrev pub IsAmong : List Content → Content → Type 0
IsAmong [] c = ⊥
IsAmong (x ∷ xs) c = (c ≡ x) ⊎ IsAmong xs c

-- the end of the process leaves what is there, and that of the machine that or something unsettled
abbrev pub MayBeLeft : Content → List Content → Content → Type 0
MayBeLeft now unsettled c = (c ≡ now) ⊎ IsAmong unsettled c

-- since t, where each content that was unsettled and isn't any more is past
abbrev pub MayBeLeftSince : Content → List Content → List Content → ℕ → Content → Type 0
MayBeLeftSince now unsettled past t c = MayBeLeft now unsettled c ⊎ IsAmong (drop t past) c

none_left : (past : List Content) (c : Content) → IsAmong (drop (length past) past) c → ⊥
none_left [] c among = among
none_left (x ∷ past) c among = none_left past c among

pub left_now : (now : Content) (unsettled past : List Content) (c : Content) → MayBeLeftSince now unsettled past (length past) c → MayBeLeft now unsettled c
left_now now unsettled past c (inl left) = left
left_now now unsettled past c (inr among) = absurd (none_left past c among)
