-- Derivatives: what is left of a form after its first character (Brzozowski, 1964).
use Rattle.std.specs.Prelude.{ℕ, zero, suc, ◌+◌, ◌*◌, Bool, true, false, cond, ◌||◌, ◌&&◌}
use Rattle.qs_lex_regular.specs.Character.{is_hex, hex_value}
use Rattle.qs_lex_regular.specs.Form.{Form, never, nothing, one, hexes, ◌⨾◌, ◌∣◌, many}

-- `⨾` and `∣`, without parts that add nothing
abbrev pub join : Form → Form → Form
join never s = never
join nothing s = s
join (one p) s = (one p) ⨾ s
join (hexes n v p) s = (hexes n v p) ⨾ s
join (a ⨾ b) s = (a ⨾ b) ⨾ s
join (a ∣ b) s = (a ∣ b) ⨾ s
join (many a) s = (many a) ⨾ s

abbrev pub or_never : Form → Form → Form
or_never r never = r
or_never r nothing = r ∣ nothing
or_never r (one p) = r ∣ (one p)
or_never r (hexes n v p) = r ∣ (hexes n v p)
or_never r (a ⨾ b) = r ∣ (a ⨾ b)
or_never r (a ∣ b) = r ∣ (a ∣ b)
or_never r (many a) = r ∣ (many a)

abbrev pub choose : Form → Form → Form
choose never s = s
choose nothing s = or_never nothing s
choose (one p) s = or_never (one p) s
choose (hexes n v p) s = or_never (hexes n v p) s
choose (a ⨾ b) s = or_never (a ⨾ b) s
choose (a ∣ b) s = or_never (a ∣ b) s
choose (many a) s = or_never (many a) s

abbrev pub nullable : Form → Bool
nullable never = false
nullable nothing = true
nullable (one p) = false
nullable (hexes zero v p) = p v
nullable (hexes (suc n) v p) = false
nullable (r ⨾ s) = nullable r && nullable s
nullable (r ∣ s) = nullable r || nullable s
nullable (many r) = true

abbrev pub derive : Form → ℕ → Form
derive never c = never
derive nothing c = never
derive (one p) c = cond (p c) nothing never
derive (hexes zero v p) c = never
derive (hexes (suc zero) v p) c = cond (is_hex c && p (v * 16 + hex_value c)) nothing never
derive (hexes (suc (suc n)) v p) c = cond (is_hex c) (hexes (suc n) (v * 16 + hex_value c) p) never
derive (r ⨾ s) c =
    cond (nullable r) (choose (join (derive r c) s) (derive s c)) (join (derive r c) s)
derive (r ∣ s) c = choose (derive r c) (derive s c)
derive (many r) c = join (derive r c) (many r)
