-- *product rule*: Words outside the profile: reserved words and system names that no rule of the grammar names, and the operators that it
-- leaves out (docs/LANGUAGE.md, "Words" and "Grammar").
use Rattle.std.specs.Prelude.{Bool, false, ◌&&◌, ◌||◌, ◌==◌, not, List, [], ◌∷◌, Option, None, Some, codes}
use Rattle.std.specs.List.{list_any}
use Rattle.std.specs.Str.{bytes_eq}
use Rattle.vwords.specs.Words.{Text, is_reserved}

-- the reserved words that the grammar names
unfoldable pub keywords : List Text
keywords =
    codes "always" ∷ codes "assign" ∷ codes "begin" ∷ codes "case" ∷ codes "casex" ∷ codes "casez" ∷ codes "default"
    ∷ codes "else" ∷ codes "end" ∷ codes "endcase" ∷ codes "endmodule" ∷ codes "event" ∷ codes "for" ∷ codes "forever"
    ∷ codes "if" ∷ codes "initial" ∷ codes "input" ∷ codes "integer" ∷ codes "localparam" ∷ codes "module"
    ∷ codes "negedge" ∷ codes "or" ∷ codes "output" ∷ codes "parameter" ∷ codes "posedge" ∷ codes "reg"
    ∷ codes "repeat" ∷ codes "signed" ∷ codes "time" ∷ codes "wait" ∷ codes "while" ∷ codes "wire" ∷ []

-- the system names that the grammar names
unfoldable pub system_names : List Text
system_names =
    codes "$display" ∷ codes "$displayb" ∷ codes "$displayo" ∷ codes "$displayh" ∷ codes "$write" ∷ codes "$writeb"
    ∷ codes "$writeo" ∷ codes "$writeh" ∷ codes "$strobe" ∷ codes "$strobeb" ∷ codes "$strobeo" ∷ codes "$strobeh"
    ∷ codes "$monitor" ∷ codes "$monitorb" ∷ codes "$monitoro" ∷ codes "$monitorh"
    ∷ codes "$fdisplay" ∷ codes "$fdisplayb" ∷ codes "$fdisplayo" ∷ codes "$fdisplayh" ∷ codes "$fwrite"
    ∷ codes "$fwriteb" ∷ codes "$fwriteo" ∷ codes "$fwriteh" ∷ codes "$fstrobe" ∷ codes "$fstrobeb"
    ∷ codes "$fstrobeo" ∷ codes "$fstrobeh" ∷ codes "$fmonitor" ∷ codes "$fmonitorb" ∷ codes "$fmonitoro"
    ∷ codes "$fmonitorh" ∷ codes "$fopen" ∷ codes "$fclose" ∷ codes "$fflush" ∷ codes "$timeformat"
    ∷ codes "$printtimescale"
    ∷ codes "$dumpfile" ∷ codes "$dumpvars" ∷ codes "$dumpon" ∷ codes "$dumpoff" ∷ codes "$dumpall" ∷ codes "$dumpflush"
    ∷ codes "$finish" ∷ codes "$stop" ∷ codes "$time" ∷ codes "$signed" ∷ codes "$unsigned" ∷ []

-- operators of the standard that the profile leaves out (5.1, 5.2.1)
unfoldable pub left_out : List Text
left_out = codes "**" ∷ codes "+:" ∷ codes "-:" ∷ []

abbrev pub is_among : List Text → Text → Bool
is_among words word = list_any (λ other. bytes_eq other word) words

-- 3.7.3: a system name begins with $
abbrev pub is_system : Text → Bool
is_system [] = false
is_system (c ∷ cs) = c == 36

abbrev pub is_outside : Text → Bool
is_outside word =
    (is_reserved word && not (is_among keywords word)) || (is_system word && not (is_among system_names word)) || is_among left_out word

-- whether a word stands outside the profile, where there is one
abbrev pub is_any_outside : Option Text → Bool
is_any_outside None = false
is_any_outside (Some word) = is_outside word
