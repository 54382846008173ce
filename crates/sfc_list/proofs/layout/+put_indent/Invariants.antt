use Rattle.sfc_list.proofs.layout.+put_indent.Given as goal

abbrev pub decreases-put_indent : goal.decreases-put_indent
decreases-put_indent g l = l.level
