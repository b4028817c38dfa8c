mod LongestLaws
