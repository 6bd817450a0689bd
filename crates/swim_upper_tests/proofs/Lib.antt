mod Scripted
