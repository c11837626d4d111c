-- Order of one cycle: what leaves a line and then what it holds, is what it held and then what entered.
-- Idea: it is so for one FIFO, whose oldest goes or stays; what leaves one FIFO enters the next, so the two ends meet. Assumes nothing.
use mathlib.Core.Bool.{Bool, true, false, cond}
use mathlib.Core.List.{List, [], ◌∷◌, ◌++◌, append-nil, append_assoc}
use mathlib.Core.Path.{◌≡◌, refl, sym, ◌∙◌}
use Rattle.signals.specs.declared.Payload.{Payload}
use Rattle.fifo.specs.Queue.{Queue, when, oldest, rest, ready, shown}
use Rattle.chain.specs.Line.{mouth, cycle, outlet, held_in}

-- at the outlet, to a sink that is ready
abbrev pub leaving : List Queue → (offer : List Payload) → (sink : Bool) → List Payload
leaving qs offer sink = when sink (outlet qs offer)

-- at the mouth, where it is ready
abbrev pub entering : List Queue → (offer : List Payload) → (sink : Bool) → List Payload
entering qs offer sink = when (mouth qs sink) offer

-- what goes of a list and what stays of it are the list
goes_stays : (sink : Bool) (held : List Payload) → when sink (oldest held) ++ cond sink (rest held) held ≡ held
goes_stays true [] = refl
goes_stays true (p ∷ ps) = refl
goes_stays false held = refl

pub cycle_order : (qs : List Queue) (offer : List Payload) (sink : Bool) →
    leaving qs offer sink ++ held_in (cycle qs offer sink) ≡ held_in qs ++ entering qs offer sink
cycle_order [] offer sink = append-nil (when sink offer)
cycle_order (q ∷ qs) offer sink =
    let stays : List Payload = cond (mouth qs sink) (rest q.held) q.held in
    sym (append_assoc (leaving qs (shown q) sink) (held_in (cycle qs (shown q) sink)) (stays ++ when (ready q) offer))
    ∙ rw (cycle_order qs (shown q) sink)
    (simp append_assoc
    (rw (← append_assoc (when (mouth qs sink) (shown q)) stays (when (ready q) offer), goes_stays (mouth qs sink) q.held)))
