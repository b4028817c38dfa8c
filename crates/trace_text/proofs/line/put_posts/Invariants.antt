use Rattle.std.proofs.Common.{◌≡◌, ◌++◌, drop, take}
use Rattle.trace_text.specs.Traces.{each_text, post_text, posts_text}
use Rattle.trace_text.proofs.line.put_posts.Given as goal

abbrev pub invariant-loop-place : goal.invariant-loop-place
invariant-loop-place l =
    l.text.items ++ each_text (post_text l.design l.values l.parts) (take l.place l.parts) (drop l.place l.parts)
    ≡ l.initial.text.items ++ posts_text l.design l.values l.parts
