use Rattle.std.proofs.Common.{ℕ, ◌++◌, replicate, ap, ◌∙◌}
use Rattle.inspect.proofs.Texts.{repeat_space}
use Rattle.inspect.proofs.lines.right_aligned.Goals as goal

pub returns : goal.returns
returns c =
    c.in_ok-push_str.ensures.bytes
    ∙ ap (λ s. s ++ c.args.text.now) (c.in_ok-aligned.ensures.bytes ∙ repeat_space c.saturating_sub.result)
    ∙ ap (λ n. replicate {A = ℕ} n 32 ++ c.args.text.now) c.saturating_sub.ensures
