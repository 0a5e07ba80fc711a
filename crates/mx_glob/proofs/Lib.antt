mod Leftmost
