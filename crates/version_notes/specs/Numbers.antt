-- The numbers of live watches.
use Rattle.std.specs.Prelude.{ℕ, ◌<◌, ◌≤◌, List, [], ◌∷◌}
use Rattle.change_feed.specs.Watches.{WatchState}

-- live watches have rising numbers above this one, up to the last that was given
abbrev pub AreNumbered : ℕ → List WatchState → ℕ → Type 0
AreNumbered n [] last = n ≤ last
AreNumbered n (w ∷ ws) last = (n < w.number) × AreNumbered w.number ws last
